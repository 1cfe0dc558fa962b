-- The invariants of every run, in one record: by any action the lines and the cells only grow in number and the steps
-- only fall. If it ends well, the cells and the active definitions stay as they were. With more steps it does the same.
-- If it is quiet, no function is new.
use Rattle.std.proofs.Common.{◌≡◌, ℕ, ◌+◌, List, [], ◌∷◌, Option, Some, None, Bool, true, false, if◌then◌else◌, Result, refl}
use Rattle.star_store.specs.declared.values.Value.{Value}
use Rattle.star_store.specs.declared.values.Cell.{Cell}
use Rattle.star_store.specs.declared.values.Cell.TheVariants as cell
use Rattle.star_store.specs.declared.values.Frame.{Frame}
use Rattle.star_store.specs.declared.values.Function.{Function}
use Rattle.star_store.specs.declared.range.Range.{Range}
use Rattle.star_store.specs.declared.names.Method.{Method}
use Rattle.star_store.specs.declared.arena.write.Change.{Change}
use Rattle.star_store.specs.declared.fault.StoreFault.{StoreFault}
use Rattle.star_store.specs.Store.{bound}
use Rattle.star_store.specs.Spend.{Spend}
use Rattle.star_tree.specs.declared.tree.Expression.{Expression}
use Rattle.star_tree.specs.declared.tree.Statement.{Statement}
use Rattle.star_tree.specs.declared.tree.Target.{Target}
use Rattle.star_tree.specs.declared.tree.Name.{Name}
use Rattle.star_outline.specs.Definitions.{Definition}
use Rattle.star_dialect.specs.declared.Dialect.TheVariants.{Core}
use Rattle.star_meaning.specs.declared.fault.FaultCode.{FaultCode}
use Rattle.star_meaning.specs.declared.site.Site.{Site}
use Rattle.star_meaning.specs.declared.site.Flow.{Flow}
use Rattle.star_meaning.specs.declared.said.Said.{Said}
use Rattle.star_meaning.specs.Run.{State, Action, ◌>>=◌, give, fail, pay, check, found, agreed, visiting, seeing, storing, make, build, each, all_of, collect, until, add_said}
use Rattle.star_meaning.specs.Program.{Setting, Variables}
use Rattle.star_meaning.specs.Values.{change, count_of, iterate, leave}
use Rattle.star_meaning.specs.Binding.{BoundArgument}
use Rattle.star_meaning.specs.Semantics.{Semantics, block, turns, repeat}
use Rattle.star_meaning.specs.Calls.{activate, deactivate}
use Rattle.star_meaning.proofs.Spending.{Spends, spends-same, spends-order, spends-check, spends-text, spends-json, spends-bare}
use Rattle.star_meaning.proofs.Growth as growth
use Rattle.star_meaning.proofs.Stays as stays
use Rattle.star_meaning.proofs.Extends as extends
use Rattle.star_meaning.proofs.Extends.{with_more}
use Rattle.star_meaning.proofs.Quiet as quiet
use Rattle.star_meaning.proofs.Invariants.{Invariant, Respects, respects_agreed, respects_all_of, respects_block, respects_collect, respects_each, respects_repeat, respects_turns, respects_until}

pub record Keeps {A : Type 0} (q : Bool) (m : Action A) : Type 0 where
  pub grows : growth.Keeps m
  pub stays : stays.Keeps m
  pub extends : extends.Extends m
  pub follows : q ≡ true → quiet.Keeps m

impossible : false ≡ true → ⊥
impossible e = cc

never : {A : Type 0} → false ≡ true → A
never e = absurd (impossible e)

pub keeps_then : {q : Bool} {A B : Type 0} (m : Action A) (f : A → Action B) → Keeps q m → ((x : A) → Keeps q (f x)) → Keeps q (m >>= f)
keeps_then m f k l = record { grows = growth.keeps_then m f k.grows (λ x. (l x).grows); stays = stays.keeps_then m f k.stays (λ x. (l x).stays); extends = extends.extends_then m f k.extends (λ x. (l x).extends); follows = λ h. quiet.keeps_then m f (k.follows h) (λ x. (l x).follows h) }

pub keeps_give : {q : Bool} {A : Type 0} (x : A) → Keeps q (give x)
keeps_give x = record { grows = growth.keeps_give x; stays = stays.keeps_give x; extends = extends.extends_give x; follows = λ h. quiet.keeps_give x }

pub keeps_fail : {q : Bool} (A : Type 0) (code : FaultCode) (line : ℕ) → Keeps q (fail {A = A} code line)
keeps_fail A code line = record { grows = growth.keeps_fail A code line; stays = stays.keeps_fail A code line; extends = extends.extends_fail A code line; follows = λ h. quiet.keeps_fail A code line }

pub keeps_if : {q : Bool} {A : Type 0} (b : Bool) (m n : Action A) → Keeps q m → Keeps q n → Keeps q (if b then m else n)
keeps_if true m n k l = k
keeps_if false m n k l = l

pub keeps_found : {q : Bool} {A : Type 0} (code : FaultCode) (line : ℕ) (o : Option A) → Keeps q (found code line o)
keeps_found {A = A} code line None = keeps_fail A code line
keeps_found {A = A} code line (Some x) = keeps_give x

pub keeps_pay : {q : Bool} (line n : ℕ) → Keeps q (pay line n)
keeps_pay line n = record { grows = growth.keeps_pay line n; stays = stays.keeps_pay line n; extends = extends.extends_pay line n; follows = λ h. quiet.keeps_pay line n }

pub keeps_seeing : {q : Bool} {A : Type 0} (f : State → Action A) → ((k : ℕ) (s : State) → f (with_more k s) ≡ f s) → ((s : State) → Keeps q (f s)) → Keeps q (seeing f)
keeps_seeing f same k = record { grows = growth.keeps_seeing f (λ s. (k s).grows); stays = stays.keeps_seeing f (λ s. (k s).stays); extends = extends.extends_seeing f same (λ s. (k s).extends); follows = λ h. quiet.keeps_seeing f (λ s. (k s).follows h) }

pub keeps_check : {q : Bool} (code : FaultCode) (line : ℕ) (b : Bool) → Keeps q (check code line b)
keeps_check code line b = keeps_if b _ _ (keeps_give {A = Unit {0}} tt) (keeps_fail (Unit {0}) code line)

pub keeps_make : (c : Cell) → Keeps false (make c)
keeps_make c = record { grows = growth.keeps_make c; stays = stays.keeps_make c; extends = extends.extends_make c; follows = λ h. never h }

pub keeps_build : (line cost : ℕ) (c : Cell) → Keeps false (build line cost c)
keeps_build line cost c = record { grows = growth.keeps_build line cost c; stays = stays.keeps_build line cost c; extends = extends.extends_build line cost c; follows = λ h. never h }

pub keeps_make_text : {q : Bool} (t : List ℕ) → Keeps q (make (cell.Text t))
keeps_make_text t = record { grows = growth.keeps_make (cell.Text t); stays = stays.keeps_make (cell.Text t); extends = extends.extends_make (cell.Text t); follows = λ h. quiet.keeps_make_text t }

pub keeps_make_tuple : {q : Bool} (xs : List Value) → Keeps q (make (cell.Tuple xs))
keeps_make_tuple xs = record { grows = growth.keeps_make (cell.Tuple xs); stays = stays.keeps_make (cell.Tuple xs); extends = extends.extends_make (cell.Tuple xs); follows = λ h. quiet.keeps_make_tuple xs }

pub keeps_make_list : {q : Bool} (xs : List Value) → Keeps q (make (cell.List xs))
keeps_make_list xs = record { grows = growth.keeps_make (cell.List xs); stays = stays.keeps_make (cell.List xs); extends = extends.extends_make (cell.List xs); follows = λ h. quiet.keeps_make_list xs }

pub keeps_make_dict : {q : Bool} (es : List (Value × Value)) → Keeps q (make (cell.Dict es))
keeps_make_dict es = record { grows = growth.keeps_make (cell.Dict es); stays = stays.keeps_make (cell.Dict es); extends = extends.extends_make (cell.Dict es); follows = λ h. quiet.keeps_make_dict es }

pub keeps_make_range : {q : Bool} (r : Range) → Keeps q (make (cell.Range r))
keeps_make_range r = record { grows = growth.keeps_make (cell.Range r); stays = stays.keeps_make (cell.Range r); extends = extends.extends_make (cell.Range r); follows = λ h. quiet.keeps_make_range r }

pub keeps_make_bound : {q : Bool} (m : Method) (v : Value) → Keeps q (make (cell.Bound m v))
keeps_make_bound m v = record { grows = growth.keeps_make (cell.Bound m v); stays = stays.keeps_make (cell.Bound m v); extends = extends.extends_make (cell.Bound m v); follows = λ h. quiet.keeps_make_bound m v }

pub keeps_make_struct : {q : Bool} (fs : List (List ℕ × Value)) → Keeps q (make (cell.Struct fs))
keeps_make_struct fs = record { grows = growth.keeps_make (cell.Struct fs); stays = stays.keeps_make (cell.Struct fs); extends = extends.extends_make (cell.Struct fs); follows = λ h. quiet.keeps_make_struct fs }

pub keeps_make_set : {q : Bool} (es : List (Value × Value)) → Keeps q (make (cell.Set es))
keeps_make_set es = record { grows = growth.keeps_make (cell.Set es); stays = stays.keeps_make (cell.Set es); extends = extends.extends_make (cell.Set es); follows = λ h. quiet.keeps_make_set es }

pub keeps_make_frame : {q : Bool} (x : Frame) → Keeps q (make (cell.Frame x))
keeps_make_frame x = record { grows = growth.keeps_make (cell.Frame x); stays = stays.keeps_make (cell.Frame x); extends = extends.extends_make (cell.Frame x); follows = λ h. quiet.keeps_make_frame x }

pub keeps_build_text : {q : Bool} (line cost : ℕ) (t : List ℕ) → Keeps q (build line cost (cell.Text t))
keeps_build_text line cost t = record { grows = growth.keeps_build line cost (cell.Text t); stays = stays.keeps_build line cost (cell.Text t); extends = extends.extends_build line cost (cell.Text t); follows = λ h. quiet.keeps_build_text line cost t }

pub keeps_build_tuple : {q : Bool} (line cost : ℕ) (xs : List Value) → Keeps q (build line cost (cell.Tuple xs))
keeps_build_tuple line cost xs = record { grows = growth.keeps_build line cost (cell.Tuple xs); stays = stays.keeps_build line cost (cell.Tuple xs); extends = extends.extends_build line cost (cell.Tuple xs); follows = λ h. quiet.keeps_build_tuple line cost xs }

pub keeps_build_list : {q : Bool} (line cost : ℕ) (xs : List Value) → Keeps q (build line cost (cell.List xs))
keeps_build_list line cost xs = record { grows = growth.keeps_build line cost (cell.List xs); stays = stays.keeps_build line cost (cell.List xs); extends = extends.extends_build line cost (cell.List xs); follows = λ h. quiet.keeps_build_list line cost xs }

pub keeps_build_dict : {q : Bool} (line cost : ℕ) (es : List (Value × Value)) → Keeps q (build line cost (cell.Dict es))
keeps_build_dict line cost es = record { grows = growth.keeps_build line cost (cell.Dict es); stays = stays.keeps_build line cost (cell.Dict es); extends = extends.extends_build line cost (cell.Dict es); follows = λ h. quiet.keeps_build_dict line cost es }

pub keeps_build_range : {q : Bool} (line cost : ℕ) (r : Range) → Keeps q (build line cost (cell.Range r))
keeps_build_range line cost r = record { grows = growth.keeps_build line cost (cell.Range r); stays = stays.keeps_build line cost (cell.Range r); extends = extends.extends_build line cost (cell.Range r); follows = λ h. quiet.keeps_build_range line cost r }

pub keeps_build_bound : {q : Bool} (line cost : ℕ) (m : Method) (v : Value) → Keeps q (build line cost (cell.Bound m v))
keeps_build_bound line cost m v = record { grows = growth.keeps_build line cost (cell.Bound m v); stays = stays.keeps_build line cost (cell.Bound m v); extends = extends.extends_build line cost (cell.Bound m v); follows = λ h. quiet.keeps_build_bound line cost m v }

pub keeps_build_struct : {q : Bool} (line cost : ℕ) (fs : List (List ℕ × Value)) → Keeps q (build line cost (cell.Struct fs))
keeps_build_struct line cost fs = record { grows = growth.keeps_build line cost (cell.Struct fs); stays = stays.keeps_build line cost (cell.Struct fs); extends = extends.extends_build line cost (cell.Struct fs); follows = λ h. quiet.keeps_build_struct line cost fs }

pub keeps_build_set : {q : Bool} (line cost : ℕ) (es : List (Value × Value)) → Keeps q (build line cost (cell.Set es))
keeps_build_set line cost es = record { grows = growth.keeps_build line cost (cell.Set es); stays = stays.keeps_build line cost (cell.Set es); extends = extends.extends_build line cost (cell.Set es); follows = λ h. quiet.keeps_build_set line cost es }

pub keeps_visiting : {q : Bool} {A : Type 0} (line : ℕ) (f : State → Spend A) → ((k : ℕ) (s : State) → f (with_more k s) ≡ f s) → ((s : State) → Spends (f s)) → Keeps q (visiting line f)
keeps_visiting line f same k = record { grows = growth.keeps_visiting line f (λ s. (k s).lowers); stays = stays.keeps_visiting line f; extends = extends.extends_visiting line f same (λ s. (k s).reaches); follows = λ h. quiet.keeps_visiting line f }

pub keeps_bound : {q : Bool} (frame : Value) (slot : ℕ) (v : Value) → Keeps q (storing (bound frame slot v))
keeps_bound frame slot v = record { grows = growth.keeps_storing _ (growth.keeping_bound frame slot v); stays = stays.keeps_bound frame slot v; extends = extends.extends_storing _; follows = λ h. quiet.keeps_bound frame slot v }

pub keeps_change : {q : Bool} (w : Setting) (line : ℕ) (v : Value) (c : Change) → Keeps q (change w line v c)
keeps_change w line v c = record { grows = growth.keeps_change w line v c; stays = stays.keeps_change w line v c; extends = extends.extends_change w line v c; follows = λ h. quiet.keeps_change w line v c }

pub keeps_add_said : {q : Bool} (x : Said) → Keeps q (add_said x)
keeps_add_said x = record { grows = growth.keeps_add_said x; stays = stays.keeps_add_said x; extends = extends.extends_add_said x; follows = λ h. quiet.keeps_add_said x }

-- a loop over a value, which is being iterated meanwhile
grows_iterate : (w : Setting) (line : ℕ) (v : Value) → growth.Keeps (iterate w line v)
unfolding iterate count_of
grows_iterate w line v = growth.keeps_then _ _ (growth.keeps_seeing _ (λ s. growth.keeps_found _ line _)) (λ n. growth.keeps_then _ _ (growth.keeps_storing _ (growth.keeping_opened v)) (λ _. growth.keeps_give n))

grows_leave : (v : Value) → growth.Keeps (leave v)
unfolding leave
grows_leave v = growth.keeps_storing _ (growth.keeping_closed v)

extends_iterate : (w : Setting) (line : ℕ) (v : Value) → extends.Extends (iterate w line v)
unfolding iterate count_of
extends_iterate w line v = extends.extends_then _ _ (extends.extends_seeing _ (λ k s. refl) (λ s. extends.extends_found _ line _)) (λ n. extends.extends_then _ _ (extends.extends_storing _) (λ _. extends.extends_give n))

extends_leave : (v : Value) → extends.Extends (leave v)
unfolding leave
extends_leave v = extends.extends_storing _

pub keeps_while : {q : Bool} {A : Type 0} (w : Setting) (line : ℕ) (v : Value) (m : ℕ → Action A) → ((n : ℕ) → Keeps q (m n)) → Keeps q (iterate w line v >>= λ n. m n >>= λ x. leave v)
keeps_while w line v m k = record { grows = growth.keeps_then _ _ (grows_iterate w line v) (λ n. growth.keeps_then _ _ (k n).grows (λ x. grows_leave v)); stays = stays.keeps_while w line v m (λ n. (k n).stays); extends = extends.extends_then _ _ (extends_iterate w line v) (λ n. extends.extends_then _ _ (k n).extends (λ x. extends_leave v)); follows = λ h. quiet.keeps_then _ _ (quiet.keeps_iterate w line v) (λ n. quiet.keeps_then _ _ ((k n).follows h) (λ x. quiet.keeps_leave v)) }

pub keeps_looping : {q : Bool} {A : Type 0} (w : Setting) (line : ℕ) (v : Value) (m : ℕ → Action A) → ((n : ℕ) → Keeps q (m n)) → Keeps q (iterate w line v >>= λ n. m n >>= λ x. leave v >>= λ _. give x)
keeps_looping w line v m k = record { grows = growth.keeps_then _ _ (grows_iterate w line v) (λ n. growth.keeps_then _ _ (k n).grows (λ x. growth.keeps_then _ _ (grows_leave v) (λ _. growth.keeps_give x))); stays = stays.keeps_looping w line v m (λ n. (k n).stays); extends = extends.extends_then _ _ (extends_iterate w line v) (λ n. extends.extends_then _ _ (k n).extends (λ x. extends.extends_then _ _ (extends_leave v) (λ _. extends.extends_give x))); follows = λ h. quiet.keeps_then _ _ (quiet.keeps_iterate w line v) (λ n. quiet.keeps_then _ _ ((k n).follows h) (λ x. quiet.keeps_then _ _ (quiet.keeps_leave v) (λ _. quiet.keeps_give x))) }

-- an action while a definition is active
pub keeps_active : {q : Bool} {A : Type 0} (f : Function) (m : Action A) → Keeps q m → Keeps q (activate f >>= λ _. m >>= λ v. deactivate >>= λ _. give v)
keeps_active f m k = record { grows = growth.keeps_then _ _ (growth.keeps_activate f) (λ _. growth.keeps_then _ _ k.grows (λ v. growth.keeps_then _ _ growth.keeps_deactivate (λ _. growth.keeps_give v))); stays = stays.keeps_active f m k.stays; extends = extends.extends_then _ _ (extends.extends_activate f) (λ _. extends.extends_then _ _ k.extends (λ v. extends.extends_then _ _ extends.extends_deactivate (λ _. extends.extends_give v))); follows = λ h. quiet.keeps_then _ _ (quiet.keeps_activate f) (λ _. quiet.keeps_then _ _ (k.follows h) (λ v. quiet.keeps_then _ _ quiet.keeps_deactivate (λ _. quiet.keeps_give v))) }

-- these invariants as one that actions respect
abbrev pub kept : (w : Setting) (q : Bool) → Invariant w
kept w q = record {
  Kept = λ {A} m. Keeps q m;
  joins = keeps_then;
  gives = keeps_give;
  fails = keeps_fail;
  pays = keeps_pay;
  sees = keeps_seeing;
  visits = keeps_visiting;
  makes_text = keeps_make_text;
  makes_tuple = keeps_make_tuple;
  makes_list = keeps_make_list;
  makes_empty = keeps_make_dict [];
  makes_range = keeps_make_range;
  makes_bound = keeps_make_bound;
  makes_struct = keeps_make_struct;
  makes_set = keeps_make_set;
  changes = keeps_change w;
  adds_said = keeps_add_said;
  iterates = keeps_while w;
  loops = keeps_looping w;
}

pub kept_by : (w : Setting) {q : Bool} {A : Type 0} {m : Action A} → Respects (kept w q) m → Keeps q m
kept_by w k = k.kept

-- ---- loops, which look at no setting

nowhere : Setting
nowhere = record { home = 0; outlines = []; shelf = []; loads = []; prelude = None; language = record { dialect = Core; recorded = [] } }

loop : {q : Bool} {A : Type 0} {m : Action A} → Respects (kept nowhere q) m → Keeps q m
loop k = kept_by nowhere k

pub keeps_each : {q : Bool} {A B : Type 0} (f : A → Action B) (xs : List A) → ((x : A) → Keeps q (f x)) → Keeps q (each f xs)
keeps_each f xs k = loop (respects_each f xs (λ x. record { kept = k x }))

pub keeps_all_of : {q : Bool} {A : Type 0} (f : A → Action (Unit {0})) (xs : List A) → ((x : A) → Keeps q (f x)) → Keeps q (all_of f xs)
keeps_all_of f xs k = loop (respects_all_of f xs (λ x. record { kept = k x }))

pub keeps_collect : {q : Bool} {B : Type 0} (f : ℕ → Action B) (n i : ℕ) → ((i : ℕ) → Keeps q (f i)) → Keeps q (collect f n i)
keeps_collect f n i k = loop (respects_collect f n i (λ j. record { kept = k j }))

pub keeps_until : {q : Bool} (f : ℕ → Action Bool) (n i : ℕ) → ((i : ℕ) → Keeps q (f i)) → Keeps q (until f n i)
keeps_until f n i k = loop (respects_until f n i (λ j. record { kept = k j }))

pub keeps_block : {A : Type 0} (f : A → Action Flow) (xs : List A) → ((x : A) → Keeps false (f x)) → Keeps false (block f xs)
keeps_block f xs k = loop (respects_block f xs (λ x. record { kept = k x }))

pub keeps_turns : (f : ℕ → Action Flow) (n i : ℕ) → ((i : ℕ) → Keeps false (f i)) → Keeps false (turns f n i)
keeps_turns f n i k = loop (respects_turns f n i (λ j. record { kept = k j }))

pub keeps_repeat : (f : ℕ → Action (Unit {0})) (n i : ℕ) → ((i : ℕ) → Keeps false (f i)) → Keeps false (repeat f n i)
keeps_repeat f n i k = loop (respects_repeat f n i (λ j. record { kept = k j }))

pub keeps_agreed : {q : Bool} {A : Type 0} (line : ℕ) (r : Result A StoreFault) → Keeps q (agreed line r)
keeps_agreed line r = loop (respects_agreed line r)

-- the three actions on variables keep it
pub record VariablesKeep (vs : Variables) : Type 0 where
  pub read : (p : Site) (n : Name) → Keeps false (vs.read p n)
  pub bind : (p : Site) (n : Name) (v : Value) → Keeps false (vs.bind p n v)
  pub frame : (file number : ℕ) (parent : Option Value) → Keeps false (vs.frame file number parent)

pub keeps_read : (vs : Variables) → VariablesKeep vs → (p : Site) (n : Name) → Keeps false (vs.read p n)
keeps_read vs k = k.read

pub keeps_bind : (vs : Variables) → VariablesKeep vs → (p : Site) (n : Name) (v : Value) → Keeps false (vs.bind p n v)
keeps_bind vs k = k.bind

pub keeps_frame : (vs : Variables) → VariablesKeep vs → (file number : ℕ) (parent : Option Value) → Keeps false (vs.frame file number parent)
keeps_frame vs k = k.frame

-- all parts of a program keep it
pub record AllKeep (m : Semantics) : Type 0 where
  pub expr : (p : Site) (e : Expression) → Keeps false (m.expr p e)
  pub stmt : (p : Site) (x : Statement) → Keeps false (m.stmt p x)
  pub assign : (p : Site) (t : Target) (v : Value) → Keeps false (m.assign p t v)
  pub parts : (p : Site) (e i : Expression) → Keeps false (m.parts p e i)
  pub call : (p : Site) (f : Function) (d : Definition) (shares : List (Name × BoundArgument)) → Keeps false (m.call p f d shares)

pub keeps_expr : (m : Semantics) → AllKeep m → (p : Site) (e : Expression) → Keeps false (m.expr p e)
keeps_expr m k = k.expr

pub keeps_stmt : (m : Semantics) → AllKeep m → (p : Site) (x : Statement) → Keeps false (m.stmt p x)
keeps_stmt m k = k.stmt

pub keeps_assign : (m : Semantics) → AllKeep m → (p : Site) (t : Target) (v : Value) → Keeps false (m.assign p t v)
keeps_assign m k = k.assign

pub keeps_parts : (m : Semantics) → AllKeep m → (p : Site) (e i : Expression) → Keeps false (m.parts p e i)
keeps_parts m k = k.parts

pub keeps_call : (m : Semantics) → AllKeep m → (p : Site) (f : Function) (d : Definition) (shares : List (Name × BoundArgument)) → Keeps false (m.call p f d shares)
keeps_call m k = k.call

pub ruleset keeps = (refl, spends-same, spends-order, spends-check, spends-text, spends-json, spends-bare, keeps_while, keeps_looping, keeps_active, keeps_then, keeps_give, keeps_fail, keeps_if, keeps_found, keeps_pay, keeps_seeing, keeps_check, keeps_make_text, keeps_make_tuple, keeps_make_list, keeps_make_dict, keeps_make_range, keeps_make_bound, keeps_make_struct, keeps_make_set, keeps_make_frame, keeps_build_text, keeps_build_tuple, keeps_build_list, keeps_build_dict, keeps_build_range, keeps_build_bound, keeps_build_struct, keeps_build_set, keeps_each, keeps_all_of, keeps_collect, keeps_until, keeps_agreed, keeps_visiting, keeps_bound, keeps_change, keeps_add_said, keeps_make, keeps_build, keeps_block, keeps_turns, keeps_repeat, keeps_read, keeps_bind, keeps_frame, keeps_expr, keeps_stmt, keeps_assign, keeps_parts, keeps_call)
