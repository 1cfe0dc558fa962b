-- The common part of all invariants of runs: the single actions keep them, and so does an action that is joined of
-- actions which keep them. So the parts of an action show that it respects every invariant.
use Rattle.std.proofs.Common.{◌≡◌, ℕ, zero, suc, ◌+◌, List, [], ◌∷◌, Option, Some, None, Bool, true, false, if◌then◌else◌, Result, Ok, Err, refl}
use Rattle.star_store.specs.declared.values.Value.{Value}
use Rattle.star_store.specs.declared.values.Cell.{Cell}
use Rattle.star_store.specs.declared.values.Cell.TheVariants as cell
use Rattle.star_store.specs.declared.range.Range.{Range}
use Rattle.star_store.specs.declared.names.Method.{Method}
use Rattle.star_store.specs.declared.arena.write.Change.{Change}
use Rattle.star_store.specs.declared.fault.StoreFault.{StoreFault}
use Rattle.star_store.specs.Spend.{Spend}
use Rattle.star_meaning.specs.declared.fault.FaultCode.{FaultCode}
use Rattle.star_meaning.specs.Run.{State, Action, ◌>>=◌, give, fail, pay, check, found, code_of, agreed, visiting, seeing, make, build, each, all_of, collect, until, add_said}
use Rattle.star_meaning.specs.Program.{Setting}
use Rattle.star_meaning.specs.Values.{change, iterate, leave}
use Rattle.star_meaning.proofs.Spending.{Spends, spends-same, spends-order, spends-check, spends-text, spends-json, spends-bare}
use Rattle.star_meaning.proofs.Extends.{with_more}
use Rattle.star_meaning.specs.declared.site.Flow.{Flow}
use Rattle.star_meaning.specs.declared.site.Flow.TheVariants as flow
use Rattle.star_meaning.specs.declared.said.Said.{Said}
use Rattle.star_meaning.specs.Semantics.{block, then_go, then_turn, turns, repeat}

-- an invariant of the runs in a setting: the single actions keep it, and so do actions that are joined
pub record Invariant (w : Setting) : Type 1 where
  pub Kept : {A : Type 0} → Action A → Type 0
  pub joins : {A B : Type 0} (m : Action A) (f : A → Action B) → Kept m → ((x : A) → Kept (f x)) → Kept (m >>= f)
  pub gives : {A : Type 0} (x : A) → Kept (give x)
  pub fails : (A : Type 0) (code : FaultCode) (line : ℕ) → Kept (fail {A = A} code line)
  pub pays : (line n : ℕ) → Kept (pay line n)
  pub sees : {A : Type 0} (f : State → Action A) → ((k : ℕ) (s : State) → f (with_more k s) ≡ f s) → ((s : State) → Kept (f s)) → Kept (seeing f)
  pub visits : {A : Type 0} (line : ℕ) (f : State → Spend A) → ((k : ℕ) (s : State) → f (with_more k s) ≡ f s) → ((s : State) → Spends (f s)) → Kept (visiting line f)
  pub makes_text : (t : List ℕ) → Kept (make (cell.Text t))
  pub makes_tuple : (xs : List Value) → Kept (make (cell.Tuple xs))
  pub makes_list : (xs : List Value) → Kept (make (cell.List xs))
  pub makes_empty : Kept (make (cell.Dict []))
  pub makes_range : (r : Range) → Kept (make (cell.Range r))
  pub makes_bound : (m : Method) (v : Value) → Kept (make (cell.Bound m v))
  pub makes_struct : (fs : List (List ℕ × Value)) → Kept (make (cell.Struct fs))
  pub makes_set : (es : List (Value × Value)) → Kept (make (cell.Set es))
  pub changes : (line : ℕ) (v : Value) (c : Change) → Kept (change w line v c)
  pub adds_said : (x : Said) → Kept (add_said x)
  pub iterates : {A : Type 0} (line : ℕ) (v : Value) (m : ℕ → Action A) → ((n : ℕ) → Kept (m n)) → Kept (iterate w line v >>= λ n. m n >>= λ x. leave v)
  pub loops : {A : Type 0} (line : ℕ) (v : Value) (m : ℕ → Action A) → ((n : ℕ) → Kept (m n)) → Kept (iterate w line v >>= λ n. m n >>= λ x. leave v >>= λ _. give x)

-- this action keeps it
pub record Respects {w : Setting} {A : Type 0} (inv : Invariant w) (m : Action A) : Type 0 where
  pub kept : inv.Kept m

pub respects_then : {w : Setting} {inv : Invariant w} {A B : Type 0} (m : Action A) (f : A → Action B) → Respects inv m → ((x : A) → Respects inv (f x)) → Respects inv (m >>= f)
respects_then {inv = inv} m f k l = record { kept = inv.joins m f k.kept (λ x. (l x).kept) }

pub respects_give : {w : Setting} {inv : Invariant w} {A : Type 0} (x : A) → Respects inv (give x)
respects_give {inv = inv} x = record { kept = inv.gives x }

pub respects_fail : {w : Setting} {inv : Invariant w} (A : Type 0) (code : FaultCode) (line : ℕ) → Respects inv (fail {A = A} code line)
respects_fail {inv = inv} A code line = record { kept = inv.fails A code line }

pub respects_if : {w : Setting} {inv : Invariant w} {A : Type 0} (b : Bool) (m n : Action A) → Respects inv m → Respects inv n → Respects inv (if b then m else n)
respects_if true m n k l = k
respects_if false m n k l = l

pub respects_found : {w : Setting} {inv : Invariant w} {A : Type 0} (code : FaultCode) (line : ℕ) (o : Option A) → Respects inv (found code line o)
respects_found {A = A} code line None = respects_fail A code line
respects_found {A = A} code line (Some x) = respects_give x

pub respects_pay : {w : Setting} {inv : Invariant w} (line n : ℕ) → Respects inv (pay line n)
respects_pay {inv = inv} line n = record { kept = inv.pays line n }

pub respects_seeing : {w : Setting} {inv : Invariant w} {A : Type 0} (f : State → Action A) → ((k : ℕ) (s : State) → f (with_more k s) ≡ f s) → ((s : State) → Respects inv (f s)) → Respects inv (seeing f)
respects_seeing {inv = inv} f same k = record { kept = inv.sees f same (λ s. (k s).kept) }

pub respects_check : {w : Setting} {inv : Invariant w} (code : FaultCode) (line : ℕ) (b : Bool) → Respects inv (check code line b)
respects_check code line b = respects_if b _ _ (respects_give {A = Unit {0}} tt) (respects_fail (Unit {0}) code line)

pub respects_make_text : {w : Setting} {inv : Invariant w} (t : List ℕ) → Respects inv (make (cell.Text t))
respects_make_text {inv = inv} t = record { kept = inv.makes_text t }

pub respects_make_tuple : {w : Setting} {inv : Invariant w} (xs : List Value) → Respects inv (make (cell.Tuple xs))
respects_make_tuple {inv = inv} xs = record { kept = inv.makes_tuple xs }

pub respects_make_list : {w : Setting} {inv : Invariant w} (xs : List Value) → Respects inv (make (cell.List xs))
respects_make_list {inv = inv} xs = record { kept = inv.makes_list xs }

pub respects_make_range : {w : Setting} {inv : Invariant w} (r : Range) → Respects inv (make (cell.Range r))
respects_make_range {inv = inv} r = record { kept = inv.makes_range r }

pub respects_make_bound : {w : Setting} {inv : Invariant w} (m : Method) (v : Value) → Respects inv (make (cell.Bound m v))
respects_make_bound {inv = inv} m v = record { kept = inv.makes_bound m v }

pub respects_make_struct : {w : Setting} {inv : Invariant w} (fs : List (List ℕ × Value)) → Respects inv (make (cell.Struct fs))
respects_make_struct {inv = inv} fs = record { kept = inv.makes_struct fs }

pub respects_make_set : {w : Setting} {inv : Invariant w} (es : List (Value × Value)) → Respects inv (make (cell.Set es))
respects_make_set {inv = inv} es = record { kept = inv.makes_set es }

pub respects_make_empty : {w : Setting} {inv : Invariant w} → Respects inv (make (cell.Dict []))
respects_make_empty {inv = inv} = record { kept = inv.makes_empty }

pub respects_build : {w : Setting} {inv : Invariant w} (line cost : ℕ) (c : Cell) → Respects inv (make c) → Respects inv (build line cost c)
unfolding build
respects_build line cost c k = respects_then _ _ (respects_pay line cost) (λ _. k)

pub respects_each : {w : Setting} {inv : Invariant w} {A B : Type 0} (f : A → Action B) (xs : List A) → ((x : A) → Respects inv (f x)) → Respects inv (each f xs)
respects_each {B = B} f [] k = respects_give {A = List B} []
respects_each {B = B} f (x ∷ xs) k = respects_then _ _ (k x) (λ y. respects_then _ _ (respects_each f xs k) (λ ys. respects_give (y ∷ ys)))

pub respects_all_of : {w : Setting} {inv : Invariant w} {A : Type 0} (f : A → Action (Unit {0})) (xs : List A) → ((x : A) → Respects inv (f x)) → Respects inv (all_of f xs)
respects_all_of f [] k = respects_give {A = Unit {0}} tt
respects_all_of f (x ∷ xs) k = respects_then _ _ (k x) (λ _. respects_all_of f xs k)

pub respects_collect : {w : Setting} {inv : Invariant w} {B : Type 0} (f : ℕ → Action B) (n j : ℕ) → ((j : ℕ) → Respects inv (f j)) → Respects inv (collect f n j)
respects_collect {B = B} f zero j k = respects_give {A = List B} []
respects_collect {B = B} f (suc n) j k = respects_then _ _ (k j) (λ y. respects_then _ _ (respects_collect f n (j + 1) k) (λ ys. respects_give (y ∷ ys)))

pub respects_until : {w : Setting} {inv : Invariant w} (f : ℕ → Action Bool) (n j : ℕ) → ((j : ℕ) → Respects inv (f j)) → Respects inv (until f n j)
respects_until f zero j k = respects_give false
respects_until f (suc n) j k = respects_then _ _ (k j) (λ stop. respects_if stop _ _ (respects_give true) (respects_until f n (j + 1) k))

pub respects_agreed : {w : Setting} {inv : Invariant w} {A : Type 0} (line : ℕ) (r : Result A StoreFault) → Respects inv (agreed line r)
respects_agreed {A = A} line (Ok x) = respects_give x
respects_agreed {A = A} line (Err f) = respects_fail A (code_of f) line

pub respects_visiting : {w : Setting} {inv : Invariant w} {A : Type 0} (line : ℕ) (f : State → Spend A) → ((k : ℕ) (s : State) → f (with_more k s) ≡ f s) → ((s : State) → Spends (f s)) → Respects inv (visiting line f)
respects_visiting {inv = inv} line f same k = record { kept = inv.visits line f same k }

pub respects_change : (w : Setting) {inv : Invariant w} (line : ℕ) (v : Value) (c : Change) → Respects inv (change w line v c)
respects_change w {inv = inv} line v c = record { kept = inv.changes line v c }

pub respects_add_said : {w : Setting} {inv : Invariant w} (x : Said) → Respects inv (add_said x)
respects_add_said {inv = inv} x = record { kept = inv.adds_said x }

pub respects_while : {A : Type 0} (w : Setting) {inv : Invariant w} (line : ℕ) (v : Value) (m : ℕ → Action A) → ((n : ℕ) → Respects inv (m n)) → Respects inv (iterate w line v >>= λ n. m n >>= λ x. leave v)
respects_while w {inv = inv} line v m k = record { kept = inv.iterates line v m (λ n. (k n).kept) }

pub respects_looping : {A : Type 0} (w : Setting) {inv : Invariant w} (line : ℕ) (v : Value) (m : ℕ → Action A) → ((n : ℕ) → Respects inv (m n)) → Respects inv (iterate w line v >>= λ n. m n >>= λ x. leave v >>= λ _. give x)
respects_looping w {inv = inv} line v m k = record { kept = inv.loops line v m (λ n. (k n).kept) }

respects_then_go : {w : Setting} {inv : Invariant w} (rest : Action Flow) (f : Flow) → Respects inv rest → Respects inv (then_go rest f)
respects_then_go rest flow.Next k = k
respects_then_go rest flow.Break k = respects_give _
respects_then_go rest flow.Continue k = respects_give _
respects_then_go rest (flow.Return v) k = respects_give _

pub respects_block : {w : Setting} {inv : Invariant w} {A : Type 0} (f : A → Action Flow) (xs : List A) → ((x : A) → Respects inv (f x)) → Respects inv (block f xs)
respects_block f [] k = respects_give _
respects_block f (x ∷ xs) k = respects_then _ _ (k x) (λ y. respects_then_go _ y (respects_block f xs k))

respects_then_turn : {w : Setting} {inv : Invariant w} (rest : Action Flow) (f : Flow) → Respects inv rest → Respects inv (then_turn rest f)
respects_then_turn rest flow.Next k = k
respects_then_turn rest flow.Break k = respects_give _
respects_then_turn rest flow.Continue k = k
respects_then_turn rest (flow.Return v) k = respects_give _

pub respects_turns : {w : Setting} {inv : Invariant w} (f : ℕ → Action Flow) (n j : ℕ) → ((j : ℕ) → Respects inv (f j)) → Respects inv (turns f n j)
respects_turns f zero j k = respects_give _
respects_turns f (suc n) j k = respects_then _ _ (k j) (λ y. respects_then_turn _ y (respects_turns f n (j + 1) k))

pub respects_repeat : {w : Setting} {inv : Invariant w} (f : ℕ → Action (Unit {0})) (n j : ℕ) → ((j : ℕ) → Respects inv (f j)) → Respects inv (repeat f n j)
respects_repeat f zero j k = respects_give {A = Unit {0}} tt
respects_repeat f (suc n) j k = respects_then _ _ (k j) (λ _. respects_repeat f n (j + 1) k)

pub ruleset respects = (refl, spends-same, spends-order, spends-check, spends-text, spends-json, spends-bare, respects_while, respects_looping, respects_then, respects_give, respects_fail, respects_if, respects_found, respects_pay, respects_seeing, respects_check, respects_make_text, respects_make_tuple, respects_make_list, respects_make_range, respects_make_bound, respects_make_struct, respects_make_set, respects_make_empty, respects_build, respects_each, respects_all_of, respects_collect, respects_until, respects_agreed, respects_visiting, respects_change, respects_add_said)
