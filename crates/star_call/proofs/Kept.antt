-- Items and names that are taken leave the store as it is.
use Rattle.std.proofs.Common.{◌≡◌, ℕ, zero, suc, ◌+◌, ◌-◌, List, [], ◌∷◌, Option, Some, None, Bool, true, false, if◌then◌else◌, refl, ◌∙◌, nat_lt, subst}
use Rattle.star_store.specs.declared.values.Value.{Value}
use Rattle.star_meaning.specs.declared.fault.FaultCode.{FaultCode}
use Rattle.star_meaning.specs.declared.fault.FaultCode.TheVariants as code
use Rattle.star_meaning.specs.declared.given.KeywordArgument.{KeywordArgument}
use Rattle.star_meaning.specs.Run.{State, Outcome, Done, Failed, Action, and_then, ◌>>=◌, give, fail, pay, found, each, collect, seeing}
use Rattle.star_meaning.specs.Program.{Setting}
use Rattle.star_meaning.specs.Values.{content, item_in, take_item}
use Rattle.star_meaning.specs.Arguments.{take_names, take_star}

abbrev Preserved : {A : Type 0} → State → Outcome A → Type 0
Preserved s (Done x t) = t.store ≡ s.store
Preserved s (Failed f lines) = Unit {0}

record Keeps {A : Type 0} (m : Action A) : Type 0 where
  holds : (s : State) → Preserved s (m s)

on : {A : Type 0} (s u : State) (o : Outcome A) → u.store ≡ s.store → Preserved u o → Preserved s o
on s u (Done x t) h k = k ∙ h
on s u (Failed f lines) h k = tt

followed : {A B : Type 0} (s : State) (o : Outcome A) (f : A → Action B) → Preserved s o → ((x : A) → Keeps (f x)) → Preserved s (and_then o f)
followed s (Done x u) f h k = on s u (f x u) h ((k x).holds u)
followed s (Failed e lines) f h k = tt

keeps_then : {A B : Type 0} (m : Action A) (f : A → Action B) → Keeps m → ((x : A) → Keeps (f x)) → Keeps (m >>= f)
keeps_then m f k l = record { holds = λ s. followed s (m s) f (k.holds s) l }

keeps_give : {A : Type 0} (x : A) → Keeps (give x)
keeps_give x = record { holds = λ s. refl }

keeps_fail : (A : Type 0) (c : FaultCode) (line : ℕ) → Keeps (fail {A = A} c line)
keeps_fail A c line = record { holds = λ s. tt }

keeps_found : {A : Type 0} (c : FaultCode) (line : ℕ) (o : Option A) → Keeps (found c line o)
keeps_found {A = A} c line None = keeps_fail A c line
keeps_found {A = A} c line (Some x) = keeps_give x

paid : (b : Bool) (line n : ℕ) (s : State) → Preserved {A = Unit {0}} s (if b then fail code.Steps line s else Done tt (record s { steps = s.steps - n }))
paid true line n s = tt
paid false line n s = refl

keeps_pay : (line n : ℕ) → Keeps (pay line n)
unfolding pay
keeps_pay line n = record { holds = λ s. paid (nat_lt s.steps n) line n s }

keeps_seeing : {A : Type 0} (f : State → Action A) → ((s : State) → Keeps (f s)) → Keeps (seeing f)
keeps_seeing f k = record { holds = λ s. (k s).holds s }

keeps_collect : {B : Type 0} (f : ℕ → Action B) (n i : ℕ) → ((i : ℕ) → Keeps (f i)) → Keeps (collect f n i)
keeps_collect {B = B} f zero i k = keeps_give {A = List B} []
keeps_collect {B = B} f (suc n) i k = keeps_then _ _ (k i) (λ y. keeps_then _ _ (keeps_collect f n (i + 1) k) (λ ys. keeps_give (y ∷ ys)))

keeps_each : {A B : Type 0} (f : A → Action B) (xs : List A) → ((x : A) → Keeps (f x)) → Keeps (each f xs)
keeps_each {B = B} f [] k = keeps_give {A = List B} []
keeps_each {B = B} f (x ∷ xs) k = keeps_then _ _ (k x) (λ y. keeps_then _ _ (keeps_each f xs k) (λ ys. keeps_give (y ∷ ys)))

keeps_item : (w : Setting) (line : ℕ) (v : Value) (i : ℕ) → Keeps (take_item w line v i)
unfolding take_item
keeps_item w line v i = keeps_then _ _ (keeps_pay line 1) (λ _. keeps_seeing _ (λ s. keeps_found code.BadType line (item_in (content w s v) i)))

keeps_take_star : (w : Setting) (line : ℕ) (o : Option Value) (n : ℕ) → Keeps (take_star w line o n)
keeps_take_star w line None n = keeps_give {A = List Value} []
keeps_take_star w line (Some v) n = keeps_collect (take_item w line v) n 0 (keeps_item w line v)

keeps_names : (line : ℕ) (ns : List KeywordArgument) → Keeps (take_names line ns)
keeps_names line ns = keeps_each _ ns (λ n. keeps_then _ _ (keeps_pay line 1) (λ _. keeps_give n))

pub star_kept : (w : Setting) (line : ℕ) (o : Option Value) (n : ℕ) (s : State) (xs : List Value) (t : State) → take_star w line o n s ≡ Done xs t → t.store ≡ s.store
star_kept w line o n s xs t e = subst (Preserved s) e ((keeps_take_star w line o n).holds s)

pub names_kept : (line : ℕ) (ns : List KeywordArgument) (s : State) (xs : List KeywordArgument) (t : State) → take_names line ns s ≡ Done xs t → t.store ≡ s.store
names_kept line ns s xs t e = subst (Preserved s) e ((keeps_names line ns).holds s)
