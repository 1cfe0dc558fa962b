-- In every run that ends well keys differ after it, if they did before.
use Rattle.std.proofs.Common.{◌≡◌, ◌⊎◌, inl, inr, ℕ, ◌+◌, ◌-◌, List, [], ◌∷◌, Option, Some, None, Bool, true, false, if◌then◌else◌, nat_lt, refl, ap, sym, subst, ◌∙◌}
use Rattle.star_store.specs.declared.values.Value.{Value}
use Rattle.star_store.specs.declared.values.Cell.{Cell}
use Rattle.star_store.specs.declared.values.Cell.TheVariants as cell
use Rattle.star_store.specs.declared.values.HeapCell.{HeapCell}
use Rattle.star_store.specs.declared.values.Frame.{Frame}
use Rattle.star_store.specs.declared.values.Function.{Function}
use Rattle.star_store.specs.declared.range.Range.{Range}
use Rattle.star_store.specs.declared.names.Method.{Method}
use Rattle.star_store.specs.declared.arena.write.Change.{Change}
use Rattle.star_store.specs.Store.{bound, bound_cell, changed, closed_in, is_container, look, made, opened_in}
use Rattle.star_store.specs.Spend.{Spend, Spent, Enough, Lacks}
use Rattle.star_tree.specs.declared.tree.Expression.{Expression}
use Rattle.star_tree.specs.declared.tree.Statement.{Statement}
use Rattle.star_tree.specs.declared.tree.Target.{Target}
use Rattle.star_tree.specs.declared.tree.Name.{Name}
use Rattle.star_outline.specs.Definitions.{Definition}
use Rattle.star_meaning.specs.declared.fault.FaultCode.{FaultCode}
use Rattle.star_meaning.specs.declared.fault.FaultCode.TheVariants as code
use Rattle.star_meaning.specs.declared.site.Site.{Site}
use Rattle.star_meaning.specs.declared.site.Flow.{Flow}
use Rattle.star_meaning.specs.declared.said.Said.{Said}
use Rattle.star_meaning.specs.Run.{State, Outcome, Done, Failed, Action, and_then, ◌>>=◌, give, fail, pay, check, found, settled, visiting, seeing, storing, make, build, each, all_of, add_said}
use Rattle.star_meaning.specs.Program.{Setting, Variables, seen}
use Rattle.star_meaning.specs.Values.{change, count_of, iterate, leave}
use Rattle.star_meaning.specs.Binding.{BoundArgument}
use Rattle.star_meaning.specs.Semantics.{Semantics, block, turns, repeat}
use Rattle.star_meaning.specs.Calls.{activate, deactivate}
use Rattle.star_meaning.proofs.Stays as stays
use Rattle.star_meaning.proofs.Invariants.{Invariant, Respects, respects_all_of, respects_block, respects_each, respects_repeat, respects_turns}
use Rattle.star_meaning.proofs.Quiet.{open_cell, close_cell}
use Rattle.star_once.specs.Keys.{Differ, KeysDiffer}
use Rattle.star_once.proofs.BoundArguments.{SharesOnce}
use Rattle.star_once.proofs.Stores.{after_same, after_step, changed_look, made_look, same_look, stays_seen}
use Rattle.star_once.proofs.Writes.{Held, write_differs}

pub record Keeps {A : Type 0} (w : Setting) (m : Action A) : Type 0 where
  pub holds : (s : State) → KeysDiffer w s → Held w (m s)

held_then : {A B : Type 0} (w : Setting) (o : Outcome A) (f : A → Action B) → Held w o → ((x : A) → Keeps w (f x)) → Held w (and_then o f)
held_then w (Done x u) f h k = (k x).holds u h
held_then w (Failed e lines) f h k = tt

pub keeps_then : {w : Setting} {A B : Type 0} (m : Action A) (f : A → Action B) → Keeps w m → ((x : A) → Keeps w (f x)) → Keeps w (m >>= f)
keeps_then {w = w} m f k l = record { holds = λ s h. held_then w (m s) f (k.holds s h) l }

pub keeps_give : {w : Setting} {A : Type 0} (x : A) → Keeps w (give x)
keeps_give x = record { holds = λ s h. h }

pub keeps_fail : {w : Setting} (A : Type 0) (c : FaultCode) (line : ℕ) → Keeps w (fail {A = A} c line)
keeps_fail A c line = record { holds = λ s h. tt }

pub keeps_if : {w : Setting} {A : Type 0} (b : Bool) (m n : Action A) → Keeps w m → Keeps w n → Keeps w (if b then m else n)
keeps_if true m n k l = k
keeps_if false m n k l = l

pub keeps_found : {w : Setting} {A : Type 0} (c : FaultCode) (line : ℕ) (o : Option A) → Keeps w (found c line o)
keeps_found {A = A} c line None = keeps_fail A c line
keeps_found {A = A} c line (Some x) = keeps_give x

paid : (w : Setting) (b : Bool) (line n : ℕ) (s : State) → KeysDiffer w s → Held {A = Unit {0}} w (if b then fail code.Steps line s else Done tt (record s { steps = s.steps - n }))
paid w true line n s h = tt
paid w false line n s h = h

pub keeps_pay : {w : Setting} (line n : ℕ) → Keeps w (pay line n)
unfolding pay
keeps_pay {w = w} line n = record { holds = λ s h. paid w (nat_lt s.steps n) line n s h }

pub keeps_seeing : {w : Setting} {A : Type 0} (f : State → Action A) → ((s : State) → Keeps w (f s)) → Keeps w (seeing f)
keeps_seeing f k = record { holds = λ s h. (k s).holds s h }

pub keeps_check : {w : Setting} (c : FaultCode) (line : ℕ) (b : Bool) → Keeps w (check c line b)
keeps_check c line b = keeps_if b _ _ (keeps_give {A = Unit {0}} tt) (keeps_fail (Unit {0}) c line)

-- ---- new cells

-- a new cell that is not a dictionary, or is one whose keys differ
pub make_differs : (w : Setting) (c : Cell) (s : State) → KeysDiffer w s → ((es : List (Value × Value)) → c ≡ cell.Dict es → Differ (seen w s) es) → Held w (make c s)
unfolding make
make_differs w c s h d = after_step w s (record s { store = made c s.store }) h (stays_seen w s (record s { store = made c s.store }) (made_stays c s)) (λ v es e. by v es (made_look c s.store w.shelf v (cell.Dict es) e))
  where
    by : (v : Value) (es : List (Value × Value)) → (look s.store w.shelf v ≡ Some (cell.Dict es)) ⊎ (c ≡ cell.Dict es) → (seen w s v ≡ Some (cell.Dict es)) ⊎ Differ (seen w s) es
    by v es (inl old) = inl old
    by v es (inr new) = inr (d es new)

    made_stays : (c : Cell) (s : State) → stays.Preserved s (make c s)
    made_stays c s = (stays.keeps_make c).holds s

keeps_other : {w : Setting} (c : Cell) → ((es : List (Value × Value)) → c ≡ cell.Dict es → ⊥) → Keeps w (make c)
keeps_other {w = w} c other = record { holds = λ s h. make_differs w c s h (λ es e. absurd (other es e)) }

pub keeps_make_text : {w : Setting} (t : List ℕ) → Keeps w (make (cell.Text t))
keeps_make_text t = keeps_other (cell.Text t) (λ es e. let no : ⊥ = cc in no)

pub keeps_make_tuple : {w : Setting} (xs : List Value) → Keeps w (make (cell.Tuple xs))
keeps_make_tuple xs = keeps_other (cell.Tuple xs) (λ es e. let no : ⊥ = cc in no)

pub keeps_make_list : {w : Setting} (xs : List Value) → Keeps w (make (cell.List xs))
keeps_make_list xs = keeps_other (cell.List xs) (λ es e. let no : ⊥ = cc in no)

pub keeps_make_range : {w : Setting} (r : Range) → Keeps w (make (cell.Range r))
keeps_make_range r = keeps_other (cell.Range r) (λ es e. let no : ⊥ = cc in no)

pub keeps_make_bound : {w : Setting} (m : Method) (v : Value) → Keeps w (make (cell.Bound m v))
keeps_make_bound m v = keeps_other (cell.Bound m v) (λ es e. let no : ⊥ = cc in no)

pub keeps_make_struct : {w : Setting} (fs : List (List ℕ × Value)) → Keeps w (make (cell.Struct fs))
keeps_make_struct fs = keeps_other (cell.Struct fs) (λ es e. let no : ⊥ = cc in no)

pub keeps_make_set : {w : Setting} (es : List (Value × Value)) → Keeps w (make (cell.Set es))
keeps_make_set es = keeps_other (cell.Set es) (λ fs e. let no : ⊥ = cc in no)

pub keeps_make_frame : {w : Setting} (x : Frame) → Keeps w (make (cell.Frame x))
keeps_make_frame x = keeps_other (cell.Frame x) (λ es e. let no : ⊥ = cc in no)

pub keeps_make_function : {w : Setting} (f : Function) → Keeps w (make (cell.Func f))
keeps_make_function f = keeps_other (cell.Func f) (λ es e. let no : ⊥ = cc in no)

pub keeps_make_none : {w : Setting} → Keeps w (make (cell.Dict []))
keeps_make_none {w = w} = record { holds = λ s h. make_differs w (cell.Dict []) s h (λ es e. let same : [] ≡ es = cc in subst (Differ (seen w s)) same tt) }

pub keeps_build : {w : Setting} (line cost : ℕ) (c : Cell) → Keeps w (make c) → Keeps w (build line cost c)
unfolding build
keeps_build line cost c k = keeps_then _ _ (keeps_pay line cost) (λ _. k)

settled_differs : {A : Type 0} (w : Setting) (line : ℕ) (s : State) (o : Spent A) → KeysDiffer w s → Held w (settled line o s)
settled_differs w line s (Enough x left) h = h
settled_differs w line s (Lacks f left) h = tt

pub keeps_visiting : {w : Setting} {A : Type 0} (line : ℕ) (f : State → Spend A) → Keeps w (visiting line f)
keeps_visiting {w = w} line f = record { holds = λ s h. settled_differs w line s (f s s.steps) h }

pub keeps_add_said : {w : Setting} (x : Said) → Keeps w (add_said x)
unfolding add_said
keeps_add_said x = record { holds = λ s h. h }

-- ---- changes of a cell

bound_dict : (slot : ℕ) (v : Value) (c : Cell) (es : List (Value × Value)) → bound_cell slot v c ≡ cell.Dict es → c ≡ cell.Dict es
bound_dict slot v (cell.Frame f) es h = absurd (let no : ⊥ = cc in no)
bound_dict slot v c es h = h

pub keeps_bound : {w : Setting} (frame : Value) (slot : ℕ) (v : Value) → Keeps w (storing (bound frame slot v))
keeps_bound {w = w} frame slot v = record {
  holds = λ s h. after_step w s (record s { store = bound frame slot v s.store }) h (stays_seen w s (record s { store = bound frame slot v s.store }) ((stays.keeps_bound frame slot v).holds s))
      (λ x es e. inl (by s x es (changed_look (λ e. record e { cell = bound_cell slot v e.cell }) frame s.store w.shelf x (cell.Dict es) e)));
}
  where
    by : (s : State) (x : Value) (es : List (Value × Value)) → (a : HeapCell) × (look s.store w.shelf x ≡ Some a.cell) × ((a.cell ≡ cell.Dict es) ⊎ (bound_cell slot v a.cell ≡ cell.Dict es)) → seen w s x ≡ Some (cell.Dict es)
    by s x es (a, there, inl old) = there ∙ ap Some old
    by s x es (a, there, inr new) = there ∙ ap Some (bound_dict slot v a.cell es new)

pub keeps_change : (w : Setting) (line : ℕ) (v : Value) (c : Change) → Keeps w (change w line v c)
unfolding change
keeps_change w line v c = record { holds = λ s h. write_differs w line v c s h (kept s) }
  where
    kept : (s : State) → stays.Preserved s (change w line v c s)
    kept s = (stays.keeps_change w line v c).holds s

-- ---- iterations

changing : {w : Setting} (f : HeapCell → HeapCell) → ((e : HeapCell) → (f e).cell ≡ e.cell) → (v : Value) → Keeps w (storing (changed f v))
changing {w = w} f same v = record { holds = λ s h. after_same w s (record s { store = changed f v s.store }) h (λ x. same_look f same v s.store w.shelf x) }

pub keeps_iterate : (w : Setting) (line : ℕ) (v : Value) → Keeps w (iterate w line v)
unfolding iterate count_of
keeps_iterate w line v = keeps_then _ _ (keeps_seeing _ (λ s. keeps_found code.BadType line _)) (λ n. keeps_then _ _ (changing opened_in (λ e. open_cell (is_container e.cell) e) v) (λ _. keeps_give n))

pub keeps_leave : {w : Setting} (v : Value) → Keeps w (leave v)
unfolding leave
keeps_leave v = changing closed_in (λ e. close_cell (is_container e.cell) e) v

-- ---- active definitions

pub keeps_activate : {w : Setting} (f : Function) → Keeps w (activate f)
unfolding activate
keeps_activate f = record { holds = λ s h. h }

pub keeps_deactivate : {w : Setting} → Keeps w deactivate
unfolding deactivate
keeps_deactivate = record { holds = λ s h. h }

-- ---- actions that keep it only if the state before has a further property

pub record KeepsWhere {A : Type 0} (w : Setting) (P : State → Type 0) (m : Action A) : Type 0 where
  pub holds : (s : State) → KeysDiffer w s → P s → Held w (m s)

-- the three actions on variables keep it
pub record VariablesKeep (w : Setting) (vs : Variables) : Type 0 where
  pub read : (p : Site) (n : Name) → Keeps w (vs.read p n)
  pub bind : (p : Site) (n : Name) (v : Value) → Keeps w (vs.bind p n v)
  pub frame : (file number : ℕ) (parent : Option Value) → Keeps w (vs.frame file number parent)

pub keeps_read : {w : Setting} (vs : Variables) → VariablesKeep w vs → (p : Site) (n : Name) → Keeps w (vs.read p n)
keeps_read vs k = k.read

pub keeps_bind : {w : Setting} (vs : Variables) → VariablesKeep w vs → (p : Site) (n : Name) (v : Value) → Keeps w (vs.bind p n v)
keeps_bind vs k = k.bind

pub keeps_frame : {w : Setting} (vs : Variables) → VariablesKeep w vs → (file number : ℕ) (parent : Option Value) → Keeps w (vs.frame file number parent)
keeps_frame vs k = k.frame

-- all parts of a program keep it, a call if the names of its arguments differ
pub record AllKeep (w : Setting) (m : Semantics) : Type 0 where
  pub expr : (p : Site) (e : Expression) → Keeps w (m.expr p e)
  pub stmt : (p : Site) (x : Statement) → Keeps w (m.stmt p x)
  pub assign : (p : Site) (t : Target) (v : Value) → Keeps w (m.assign p t v)
  pub parts : (p : Site) (e i : Expression) → Keeps w (m.parts p e i)
  pub call : (p : Site) (f : Function) (d : Definition) (shares : List (Name × BoundArgument)) → KeepsWhere w (λ s. SharesOnce (seen w s) shares) (m.call p f d shares)

pub keeps_expr : {w : Setting} (m : Semantics) → AllKeep w m → (p : Site) (e : Expression) → Keeps w (m.expr p e)
keeps_expr m k = k.expr

pub keeps_stmt : {w : Setting} (m : Semantics) → AllKeep w m → (p : Site) (x : Statement) → Keeps w (m.stmt p x)
keeps_stmt m k = k.stmt

pub keeps_assign : {w : Setting} (m : Semantics) → AllKeep w m → (p : Site) (t : Target) (v : Value) → Keeps w (m.assign p t v)
keeps_assign m k = k.assign

pub keeps_parts : {w : Setting} (m : Semantics) → AllKeep w m → (p : Site) (e i : Expression) → Keeps w (m.parts p e i)
keeps_parts m k = k.parts

pub keeps_while : {A : Type 0} (w : Setting) (line : ℕ) (v : Value) (m : ℕ → Action A) → ((n : ℕ) → Keeps w (m n)) → Keeps w (iterate w line v >>= λ n. m n >>= λ x. leave v)
keeps_while w line v m k = keeps_then _ _ (keeps_iterate w line v) (λ n. keeps_then _ _ (k n) (λ x. keeps_leave v))

pub keeps_looping : {A : Type 0} (w : Setting) (line : ℕ) (v : Value) (m : ℕ → Action A) → ((n : ℕ) → Keeps w (m n)) → Keeps w (iterate w line v >>= λ n. m n >>= λ x. leave v >>= λ _. give x)
keeps_looping w line v m k = keeps_then _ _ (keeps_iterate w line v) (λ n. keeps_then _ _ (k n) (λ x. keeps_then _ _ (keeps_leave v) (λ _. keeps_give x)))

-- it is an invariant that keys differ
abbrev pub once : (w : Setting) → Invariant w
once w = record {
  Kept = λ {A} m. Keeps w m;
  joins = keeps_then;
  gives = keeps_give;
  fails = keeps_fail;
  pays = keeps_pay;
  sees = λ f same k. keeps_seeing f k;
  visits = λ line f same k. keeps_visiting line f;
  makes_text = keeps_make_text;
  makes_tuple = keeps_make_tuple;
  makes_list = keeps_make_list;
  makes_empty = keeps_make_none;
  makes_range = keeps_make_range;
  makes_bound = keeps_make_bound;
  makes_struct = keeps_make_struct;
  makes_set = keeps_make_set;
  changes = keeps_change w;
  adds_said = keeps_add_said;
  iterates = keeps_while w;
  loops = keeps_looping w;
}

pub once_by : {w : Setting} {A : Type 0} {m : Action A} → Respects (once w) m → Keeps w m
once_by k = k.kept

-- ---- loops

pub keeps_each : {w : Setting} {A B : Type 0} (f : A → Action B) (xs : List A) → ((x : A) → Keeps w (f x)) → Keeps w (each f xs)
keeps_each f xs k = once_by (respects_each f xs (λ x. record { kept = k x }))

pub keeps_all_of : {w : Setting} {A : Type 0} (f : A → Action (Unit {0})) (xs : List A) → ((x : A) → Keeps w (f x)) → Keeps w (all_of f xs)
keeps_all_of f xs k = once_by (respects_all_of f xs (λ x. record { kept = k x }))

pub keeps_block : {w : Setting} {A : Type 0} (f : A → Action Flow) (xs : List A) → ((x : A) → Keeps w (f x)) → Keeps w (block f xs)
keeps_block f xs k = once_by (respects_block f xs (λ x. record { kept = k x }))

pub keeps_turns : {w : Setting} (f : ℕ → Action Flow) (n i : ℕ) → ((i : ℕ) → Keeps w (f i)) → Keeps w (turns f n i)
keeps_turns f n i k = once_by (respects_turns f n i (λ j. record { kept = k j }))

pub keeps_repeat : {w : Setting} (f : ℕ → Action (Unit {0})) (n i : ℕ) → ((i : ℕ) → Keeps w (f i)) → Keeps w (repeat f n i)
keeps_repeat f n i k = once_by (respects_repeat f n i (λ j. record { kept = k j }))

pub ruleset keeps = (refl, keeps_then, keeps_give, keeps_fail, keeps_if, keeps_found, keeps_pay, keeps_seeing, keeps_check, keeps_make_text, keeps_make_tuple, keeps_make_list, keeps_make_range, keeps_make_bound, keeps_make_struct, keeps_make_set, keeps_make_frame, keeps_make_function, keeps_make_none, keeps_build, keeps_each, keeps_all_of, keeps_visiting, keeps_bound, keeps_change, keeps_iterate, keeps_leave, keeps_activate, keeps_deactivate, keeps_add_said, keeps_block, keeps_turns, keeps_repeat, keeps_read, keeps_bind, keeps_frame, keeps_expr, keeps_stmt, keeps_assign, keeps_parts)
