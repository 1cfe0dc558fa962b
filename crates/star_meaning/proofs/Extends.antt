-- An action that does not fail for want of steps does the same with more steps.
use Rattle.std.proofs.Common.{◌≡◌, ◌≢◌, ℕ, ◌+◌, ◌-◌, ◌≤◌, List, Option, Some, None, Bool, true, false, if◌then◌else◌, refl, ap, arith, nat_lt, Result, Ok, Err}
use Rattle.star_store.specs.declared.values.Value.{Value}
use Rattle.star_store.specs.declared.values.Cell.{Cell}
use Rattle.star_store.specs.declared.values.Function.{Function}
use Rattle.star_store.specs.declared.arena.write.Change.{Change}
use Rattle.star_store.specs.declared.fault.StoreFault.{StoreFault}
use Rattle.star_store.specs.declared.fault.StoreFault.TheVariants as refused
use Rattle.star_store.specs.Store.{Store}
use Rattle.star_store.specs.Spend.{Spend, Spent, Enough, Lacks}
use Rattle.star_store.specs.Write.{write}
use Rattle.star_meaning.specs.declared.fault.FaultCode.{FaultCode}
use Rattle.star_meaning.specs.declared.fault.FaultCode.TheVariants as code
use Rattle.star_meaning.specs.declared.said.Said.{Said}
use Rattle.star_meaning.specs.Run.{State, Outcome, Done, Failed, Action, and_then, ◌>>=◌, give, fail, pay, found, code_of, settled, visiting, seeing, storing, make, build, add_said}
use Rattle.star_meaning.specs.Program.{Setting}
use Rattle.star_meaning.specs.Values.{written, change}
use Rattle.star_meaning.specs.Calls.{activate, deactivate}
use Rattle.std.proofs.lemmas.Bool.{ltb-false}
use Rattle.star_meaning.proofs.Reaches.{NotForWant, further, Reaches}

-- the state with more steps
abbrev pub with_more : ℕ → State → State
with_more k s = record s { steps = s.steps + k }

-- an outcome with more steps left
abbrev pub later : {A : Type 0} → ℕ → Outcome A → Outcome A
later k (Done x t) = Done x (with_more k t)
later k (Failed f lines) = Failed f lines

-- an outcome that is not for want of steps
abbrev pub NotForSteps : {A : Type 0} → Outcome A → Type 0
NotForSteps (Done x t) = Unit {0}
NotForSteps (Failed f lines) = f.code ≢ code.Steps

pub record Extends {A : Type 0} (m : Action A) : Type 0 where
  pub holds : (k : ℕ) (s : State) → NotForSteps (m s) → m (with_more k s) ≡ later k (m s)

then_later : {A B : Type 0} (k : ℕ) (o o' : Outcome A) (f : A → Action B) → (NotForSteps o → o' ≡ later k o) → ((x : A) → Extends (f x)) → NotForSteps (and_then o f) → and_then o' f ≡ later k (and_then o f)
then_later k (Done x u) o' f h g n = rw (h tt) ((g x).holds k u n)
then_later k (Failed e lines) o' f h g n = rw (h n) refl

pub extends_then : {A B : Type 0} (m : Action A) (f : A → Action B) → Extends m → ((x : A) → Extends (f x)) → Extends (m >>= f)
extends_then m f g h = record { holds = λ k s n. then_later k (m s) (m (with_more k s)) f (g.holds k s) h n }

pub extends_give : {A : Type 0} (x : A) → Extends (give x)
extends_give x = record { holds = λ k s n. refl }

pub extends_fail : (A : Type 0) (c : FaultCode) (line : ℕ) → Extends (fail {A = A} c line)
extends_fail A c line = record { holds = λ k s n. refl }

pub extends_found : {A : Type 0} (c : FaultCode) (line : ℕ) (o : Option A) → Extends (found c line o)
extends_found {A = A} c line None = extends_fail A c line
extends_found {A = A} c line (Some x) = extends_give x

paid_more : (b : Bool) (line n k : ℕ) (s : State) → nat_lt s.steps n ≡ b → NotForSteps {A = Unit {0}} (if b then fail code.Steps line s else Done tt (record s { steps = s.steps - n })) → (if nat_lt (s.steps + k) n then fail code.Steps line (with_more k s) else Done tt (record s { steps = s.steps + k - n })) ≡ later {A = Unit {0}} k (if b then fail code.Steps line s else Done tt (record s { steps = s.steps - n }))
paid_more true line n k s e h = absurd (h refl)
paid_more false line n k s e h =
    let enough : n ≤ s.steps = ltb-false s.steps n e in
    let none : nat_lt (s.steps + k) n ≡ false = grind (arith, enough) in
    let left : s.steps + k - n ≡ s.steps - n + k = omega (arith, enough) in
    rw none (rw left refl)

pub extends_pay : (line n : ℕ) → Extends (pay line n)
unfolding pay
extends_pay line n = record { holds = λ k s h. paid_more (nat_lt s.steps n) line n k s refl h }

pub extends_seeing : {A : Type 0} (f : State → Action A) → ((k : ℕ) (s : State) → f (with_more k s) ≡ f s) → ((s : State) → Extends (f s)) → Extends (seeing f)
extends_seeing f same g = record { holds = λ k s n. rw (same k s) ((g s).holds k s n) }

pub extends_make : (c : Cell) → Extends (make c)
unfolding make
extends_make c = record { holds = λ k s n. refl }

pub extends_build : (line cost : ℕ) (c : Cell) → Extends (build line cost c)
unfolding build
extends_build line cost c = extends_then _ _ (extends_pay line cost) (λ _. extends_make c)

-- a refusal that is not for want of steps is a fault of another code
not_steps : (f : StoreFault) → (code_of f ≢ code.Steps) → f ≢ refused.Steps
not_steps f h e = h (ap code_of e)

settled_more : {A : Type 0} (line k : ℕ) (s : State) (o o' : Spent A) → (NotForWant o → o' ≡ further k o) → NotForSteps (settled line o s) → settled line o' (with_more k s) ≡ later k (settled line o s)
settled_more line k s (Enough x left) o' h n = rw (h tt) refl
settled_more line k s (Lacks f left) o' h n = rw (h (not_steps f n)) refl

pub extends_visiting : {A : Type 0} (line : ℕ) (f : State → Spend A) → ((k : ℕ) (s : State) → f (with_more k s) ≡ f s) → ((s : State) → Reaches (f s)) → Extends (visiting line f)
extends_visiting line f same g = record { holds = λ k s n. rw (same k s) (settled_more line k s (f s s.steps) (f s (s.steps + k)) (g s k s.steps) n) }

pub extends_storing : (f : Store → Store) → Extends (storing f)
extends_storing f = record { holds = λ k s n. refl }

extends_written : (line : ℕ) (r : Result (Option Value × Store) StoreFault) → Extends (written line r)
extends_written line (Ok r) = record { holds = λ k s n. refl }
extends_written line (Err f) = record { holds = λ k s n. refl }

pub extends_change : (w : Setting) (line : ℕ) (v : Value) (c : Change) → Extends (change w line v c)
unfolding change
extends_change w line v c = extends_seeing _ (λ k s. refl) (λ s. extends_written line (write s.store w.shelf v c))

pub extends_add_said : (x : Said) → Extends (add_said x)
unfolding add_said
extends_add_said x = record { holds = λ k s n. refl }

pub extends_activate : (f : Function) → Extends (activate f)
unfolding activate
extends_activate f = record { holds = λ k s n. refl }

pub extends_deactivate : Extends deactivate
unfolding deactivate
extends_deactivate = record { holds = λ k s n. refl }
