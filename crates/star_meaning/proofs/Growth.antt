-- Whatever an action does, the lines and the cells only grow in number, the steps only fall, and the module stays.
use Rattle.std.proofs.Common.{◌≡◌, ℕ, zero, suc, ◌-◌, ◌≤◌, List, [], ◌∷◌, ◌++◌, length, Option, Some, None, Bool, true, false, if◌then◌else◌, refl, ap, ◌∙◌, arith, nat_lt, nat_eq, Result, Ok, Err}
use Rattle.star_store.specs.declared.values.Value.{Value}
use Rattle.star_store.specs.declared.values.Value.TheVariants as value
use Rattle.star_store.specs.declared.values.Cell.{Cell}
use Rattle.star_store.specs.declared.values.HeapCell.{HeapCell}
use Rattle.star_store.specs.declared.values.Function.{Function}
use Rattle.star_store.specs.declared.arena.write.Change.{Change}
use Rattle.star_store.specs.declared.fault.StoreFault.{StoreFault}
use Rattle.star_store.specs.Store.{Store, made, changed, changed_at, bound, opened, closed}
use Rattle.star_store.specs.Spend.{Spend, Spent, Enough, Lacks}
use Rattle.star_store.specs.Write.{allowed, made_if, in_store}
use Rattle.star_meaning.specs.declared.fault.FaultCode.{FaultCode}
use Rattle.star_meaning.specs.declared.fault.FaultCode.TheVariants as code
use Rattle.star_meaning.specs.declared.said.Said.{Said}
use Rattle.star_meaning.specs.Run.{State, Outcome, Done, Failed, Action, and_then, ◌>>=◌, give, fail, pay, found, settled, visiting, seeing, storing, make, build, add_said}
use Rattle.star_meaning.specs.Program.{Setting}
use Rattle.star_meaning.specs.Values.{written, change}
use Rattle.star_meaning.specs.Laws.{Grows, Grown}
use Rattle.star_meaning.proofs.Lowers.{Falls, Lowers}
use Rattle.star_meaning.specs.Calls.{activate, deactivate, rest_of}

-- whatever state an action begins in, it keeps this
pub record Keeps {A : Type 0} (m : Action A) : Type 0 where
  pub holds : (s : State) → Grown s (m s)

append_nil : {A : Type 0} (xs : List A) → xs ≡ xs ++ []
append_nil [] = refl
append_nil (x ∷ xs) = ap (λ ys. x ∷ ys) (append_nil xs)

append_assoc : {A : Type 0} (xs ys zs : List A) → (xs ++ ys) ++ zs ≡ xs ++ (ys ++ zs)
append_assoc [] ys zs = refl
append_assoc (x ∷ xs) ys zs = ap (λ us. x ∷ us) (append_assoc xs ys zs)

-- a state with the same module and lines, as many cells, and no more steps
pub less : (s : State) (store : Store) (active : List (ℕ × ℕ)) (steps : ℕ) → store.home ≡ s.store.home → length s.store.cells ≤ length store.cells → steps ≤ s.steps → Grows s (record { store = store; active = active; steps = steps; lines = s.lines })
less s store active steps h k l = record { home = h; cells = k; steps = l; lines = ([], append_nil s.lines) }

pub same : (s : State) → Grows s s
same s = less s s.store s.active s.steps refl (omega arith) (omega arith)

grown_on : {A : Type 0} (s u : State) → Grows s u → (o : Outcome A) → Grown u o → Grown s o
grown_on s u a (Done x t) b = record { home = b.home ∙ a.home; cells = omega (arith, a.cells, b.cells); steps = omega (arith, a.steps, b.steps); lines = (a.lines.0 ++ b.lines.0, b.lines.1 ∙ ap (λ (xs : List Said). xs ++ b.lines.0) a.lines.1 ∙ append_assoc s.lines a.lines.0 b.lines.0) }
grown_on s u a (Failed f lines) b = (a.lines.0 ++ b.0, b.1 ∙ ap (λ (xs : List Said). xs ++ b.0) a.lines.1 ∙ append_assoc s.lines a.lines.0 b.0)

grown_then : {A B : Type 0} (s : State) (o : Outcome A) (f : A → Action B) → Grown s o → ((x : A) → Keeps (f x)) → Grown s (and_then o f)
grown_then s (Done x u) f h k = grown_on s u h (f x u) ((k x).holds u)
grown_then s (Failed e lines) f h k = h

pub keeps_then : {A B : Type 0} (m : Action A) (f : A → Action B) → Keeps m → ((x : A) → Keeps (f x)) → Keeps (m >>= f)
keeps_then m f k l = record { holds = λ s. grown_then s (m s) f (k.holds s) l }

pub keeps_give : {A : Type 0} (x : A) → Keeps (give x)
keeps_give x = record { holds = λ s. same s }

pub keeps_fail : (A : Type 0) (code : FaultCode) (line : ℕ) → Keeps (fail {A = A} code line)
keeps_fail A code line = record { holds = λ s. ([], append_nil s.lines) }

pub keeps_found : {A : Type 0} (code : FaultCode) (line : ℕ) (o : Option A) → Keeps (found code line o)
keeps_found {A = A} code line None = keeps_fail A code line
keeps_found {A = A} code line (Some x) = keeps_give x

paid : (b : Bool) (line n : ℕ) (s : State) → Grown {A = Unit {0}} s (if b then fail code.Steps line s else Done tt (record s { steps = s.steps - n }))
paid true line n s = ([], append_nil s.lines)
paid false line n s = less s s.store s.active (s.steps - n) refl (omega arith) (omega arith)

pub keeps_pay : (line n : ℕ) → Keeps (pay line n)
unfolding pay
keeps_pay line n = record { holds = λ s. paid (nat_lt s.steps n) line n s }

pub keeps_seeing : {A : Type 0} (f : State → Action A) → ((s : State) → Keeps (f s)) → Keeps (seeing f)
keeps_seeing f k = record { holds = λ s. (k s).holds s }

length_more : {A : Type 0} (xs ys : List A) → length xs ≤ length (xs ++ ys)
length_more [] ys = omega arith
length_more (x ∷ xs) ys = omega (arith, length_more xs ys)

pub keeps_make : (c : Cell) → Keeps (make c)
unfolding make
keeps_make c = record { holds = λ s. less s (made c s.store) s.active s.steps refl (length_more s.store.cells _) (omega arith) }

pub keeps_build : (line cost : ℕ) (c : Cell) → Keeps (build line cost c)
unfolding build
keeps_build line cost c = keeps_then _ _ (keeps_pay line cost) (λ _. keeps_make c)

settled_grown : {A : Type 0} (line : ℕ) (s : State) (o : Spent A) → Falls s.steps o → Grown s (settled line o s)
settled_grown line s (Enough x left) h = less s s.store s.active left refl (omega arith) h
settled_grown line s (Lacks f left) h = ([], append_nil s.lines)

pub keeps_visiting : {A : Type 0} (line : ℕ) (f : State → Spend A) → ((s : State) → Lowers (f s)) → Keeps (visiting line f)
keeps_visiting line f k = record { holds = λ s. settled_grown line s (f s s.steps) (k s s.steps) }

-- a change of the store that keeps its module, and does not have fewer cells after it
pub record Keeping (f : Store → Store) : Type 0 where
  pub home : (s : Store) → (f s).home ≡ s.home
  pub cells : (s : Store) → length s.cells ≤ length (f s).cells

pub keeps_storing : (f : Store → Store) → Keeping f → Keeps (storing f)
keeps_storing f k = record { holds = λ s. less s (f s.store) s.active s.steps (k.home s.store) (k.cells s.store) (omega arith) }

length_changed : (f : HeapCell → HeapCell) (xs : List HeapCell) (at : ℕ) → length xs ≤ length (changed_at f xs at)
length_changed f [] at = omega arith
length_changed f (x ∷ xs) zero = omega arith
length_changed f (x ∷ xs) (suc at) = omega (arith, length_changed f xs at)

own_home : (b : Bool) (s : Store) (cells : List HeapCell) → (if b then record s { cells = cells } else s).home ≡ s.home
own_home true s cells = refl
own_home false s cells = refl

own_cells : (b : Bool) (s : Store) (cells : List HeapCell) → length s.cells ≤ length cells → length s.cells ≤ length ((if b then record s { cells = cells } else s).cells)
own_cells true s cells h = h
own_cells false s cells h = omega arith

changed_home : (f : HeapCell → HeapCell) (v : Value) (s : Store) → (changed f v s).home ≡ s.home
changed_home f (value.Ref home at) s = own_home (nat_eq home s.home) s _
changed_home f _ s = refl

changed_cells : (f : HeapCell → HeapCell) (v : Value) (s : Store) → length s.cells ≤ length (changed f v s).cells
changed_cells f (value.Ref home at) s = own_cells (nat_eq home s.home) s _ (length_changed f s.cells at)
changed_cells f _ s = omega arith

pub keeping_changed : (f : HeapCell → HeapCell) (v : Value) → Keeping (changed f v)
keeping_changed f v = record { home = changed_home f v; cells = changed_cells f v }

pub keeping_bound : (frame : Value) (slot : ℕ) (v : Value) → Keeping (bound frame slot v)
keeping_bound frame slot v = keeping_changed _ frame

pub keeping_opened : (v : Value) → Keeping (opened v)
keeping_opened v = keeping_changed _ v

pub keeping_closed : (v : Value) → Keeping (closed v)
keeping_closed v = keeping_changed _ v

-- a write keeps the module and the number of cells
store_written : (c : Result (Unit {0}) StoreFault) (d : Result (Option Value × Cell) StoreFault) (v : Value) (line : ℕ) (s : State) → Grown s (written line (made_if c (in_store v s.store d)) s)
store_written (Ok u) (Ok r) v line s = less s (changed (λ e. record e { cell = r.1 }) v s.store) s.active s.steps (changed_home _ v s.store) (changed_cells _ v s.store) (omega arith)
store_written (Ok u) (Err f) v line s = ([], append_nil s.lines)
store_written (Err f) d v line s = ([], append_nil s.lines)

pub keeps_change : (w : Setting) (line : ℕ) (v : Value) (c : Change) → Keeps (change w line v c)
unfolding change
keeps_change w line v c = record { holds = λ s. store_written (allowed s.store w.shelf v c) _ v line s }

pub keeps_add_said : (x : Said) → Keeps (add_said x)
unfolding add_said
keeps_add_said x = record { holds = λ s. record { home = refl; cells = omega arith; steps = omega arith; lines = (x ∷ [], refl) } }

pub keeps_activate : (f : Function) → Keeps (activate f)
unfolding activate
keeps_activate f = record { holds = λ s. less s s.store ((f.file, f.definition) ∷ s.active) s.steps refl (omega arith) (omega arith) }

pub keeps_deactivate : Keeps deactivate
unfolding deactivate
keeps_deactivate = record { holds = λ s. less s s.store (rest_of s.active) s.steps refl (omega arith) (omega arith) }
