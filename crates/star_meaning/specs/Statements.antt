-- Statements: one equation for each form.
use Rattle.std.specs.Prelude.{ℕ, List, [], ◌∷◌, Option, Some, None, if◌then◌else◌}
use Rattle.std.specs.Option.{option_and_then}
use Rattle.star_store.specs.declared.values.Value.{Value}
use Rattle.star_store.specs.declared.values.Value.TheVariants as value
use Rattle.star_store.specs.declared.values.Cell.TheVariants as cell
use Rattle.star_store.specs.Store.{Published, global_of}
use Rattle.star_tree.specs.declared.tree.BinaryOperator.{BinaryOperator}
use Rattle.star_tree.specs.declared.tree.BinaryOperator.TheVariants as binary
use Rattle.star_tree.specs.declared.tree.Expression.{Expression}
use Rattle.star_tree.specs.declared.tree.Target.{Target}
use Rattle.star_tree.specs.declared.tree.Arm.{Arm, out-Arm}
use Rattle.star_tree.specs.declared.tree.Statement.{Statement}
use Rattle.star_tree.specs.declared.tree.LoadedName.{LoadedName}
use Rattle.star_tree.specs.declared.tree.Position.{Position}
use Rattle.star_tree.specs.declared.tree.Argument.TheOpen as tree
use Rattle.star_tree.specs.declared.tree.Form.TheOpen as form
use Rattle.star_meaning.specs.declared.fault.FaultCode.TheVariants as code
use Rattle.star_meaning.specs.declared.merge.Merge.TheVariants as merge
use Rattle.star_meaning.specs.declared.site.Site.{Site}
use Rattle.star_meaning.specs.declared.site.Flow.{Flow}
use Rattle.star_meaning.specs.declared.site.Flow.TheVariants as flow
use Rattle.star_outline.specs.Syntax.{StatementForm, TargetForm, target}
use Rattle.star_meaning.specs.Run.{Action, ◌>>=◌, give, fail, found, all_of}
use Rattle.star_meaning.specs.Program.{Setting, Variables, file_of, published_of}
use Rattle.star_meaning.specs.Values.{Content, Held, with_content, take_item, iterate, leave, is_true, guard}
use Rattle.star_meaning.specs.Operators.{operate}
use Rattle.star_meaning.specs.Subscript.{set_index}
use Rattle.star_meaning.specs.ListMethods.{extend}
use Rattle.star_meaning.specs.Pairs.{update_with}
use Rattle.star_meaning.specs.Sets.{augment_set}
use Rattle.star_meaning.specs.Semantics.{Semantics, block, turns}
use Rattle.star_meaning.specs.Targets.{to_target}
use Rattle.star_meaning.specs.Expressions.{new_function}

-- `+=` on a list works as `extend`, `|=` on a dictionary as `update`, `|=`, `&=`, `-=` and `^=` on a set are writes;
-- else it computes as the operator does
abbrev pub augment_content : Setting → ℕ → ℕ → BinaryOperator → Value → Value → Content → Action Value
augment_content w levels line binary.Add x y (Held (cell.List xs)) = extend w line x y >>= λ _. give x
augment_content w levels line binary.BitOr x y (Held (cell.Dict es)) =
    update_with w levels line x (Some y) [] (guard w line x) >>= λ _. give x
augment_content w levels line binary.BitOr x y (Held (cell.Set es)) = augment_set w levels line merge.Union x y
augment_content w levels line binary.BitAnd x y (Held (cell.Set es)) = augment_set w levels line merge.Intersection x y
augment_content w levels line binary.Subtract x y (Held (cell.Set es)) = augment_set w levels line merge.Difference x y
augment_content w levels line binary.BitXor x y (Held (cell.Set es)) =
    augment_set w levels line merge.SymmetricDifference x y
augment_content w levels line op x y c = operate w levels line op x y

abbrev pub augmented : Setting → ℕ → ℕ → BinaryOperator → Value → Value → Action Value
augmented w levels line op x y = with_content w x (augment_content w levels line op x y)

-- t op= e: the target's parts are evaluated once, it is read, e is evaluated, then it is computed and written; the name
-- is not a node
abbrev pub augment : Variables → Setting → ℕ → Semantics → Site → BinaryOperator → Expression → TargetForm
    → Action (Unit {0})
augment vs w levels m p op e (tree.Target-F.Target::Name n) = do
  x ← vs.read p n
  y ← m.expr p e
  z ← augmented w levels p.line op x y
  vs.bind p n z
augment vs w levels m p op e (tree.Target-F.Target::Index b i) = do
  r ← m.parts p b i
  y ← m.expr p e
  z ← augmented w levels p.line op r.old y
  set_index w levels p.line r.base r.index z
augment vs w levels m p op e _ = fail code.BadType p.line

-- the arms in order, up to the first whose condition is true
abbrev pub arms : Setting → Semantics → Site → List Arm → Action Flow → Action Flow
arms w m p [] otherwise = otherwise
arms w m p (a ∷ more) otherwise =
    m.expr p (out-Arm a).condition >>= is_true w >>= λ b. if b then block (m.stmt p) (out-Arm a).body
    else arms w m p more otherwise

-- a turn of a loop: the next item is taken and assigned, and the body runs
abbrev pub loop_turn : Variables → Setting → Semantics → Site → Target → List Statement → Value → ℕ → Action Flow
loop_turn vs w m p t body v i = do
  x ← take_item w p.line v i
  _ ← to_target vs m p t x
  block (m.stmt p) body

-- `for`: the value is being iterated while the turns run
abbrev pub loop : Variables → Setting → Semantics → Site → Target → List Statement → Value → Action Flow
loop vs w m p t body v = do
  n ← iterate w p.line v
  f ← turns (loop_turn vs w m p t body v) n 0
  _ ← leave v
  give f

-- a loaded name is bound to the global of the loaded module: `no_name` if it is missing or unbound
abbrev pub load_name : Variables → Site → Option Published → LoadedName → Action (Unit {0})
load_name vs p o n = do
  v ← found code.NoName p.line (option_and_then (λ q. global_of n.loaded.text q.globals) o)
  vs.bind p n.local v

-- the published module of a load statement
abbrev pub module_of : Setting → Position → Option Published
module_of w at = option_and_then (published_of w) (file_of w at.token)

abbrev pub returned : Semantics → Site → Option Expression → Action Flow
returned m p None = give (flow.Return value.NoneValue)
returned m p (Some e) = m.expr p e >>= λ v. give (flow.Return v)

-- the effect of a statement; its parts have the meaning m, and its visits may open this many levels
abbrev pub statement : Variables → Setting → ℕ → Semantics → Site → Position → StatementForm → Action Flow
statement vs w levels m p at (form.Expression e) = m.expr p e >>= λ _. give flow.Next
statement vs w levels m p at (form.Assign t e) = do
  v ← m.expr p e
  _ ← to_target vs m p t v
  give flow.Next
statement vs w levels m p at (form.Augment t op e) = augment vs w levels m p op e (target t) >>= λ _. give flow.Next
statement vs w levels m p at form.Pass = give flow.Next
statement vs w levels m p at form.Break = give flow.Break
statement vs w levels m p at form.Continue = give flow.Continue
statement vs w levels m p at (form.Return e) = returned m p e
statement vs w levels m p at (form.Load l names) =
    all_of (load_name vs p (module_of w at)) names >>= λ _. give flow.Next
statement vs w levels m p at (form.If cases otherwise) = arms w m p cases (block (m.stmt p) otherwise)
statement vs w levels m p at (form.For t e body) = m.expr p e >>= loop vs w m p t body
statement vs w levels m p at (form.Def n ps body) = do
  v ← new_function m p at.token n.text ps
  _ ← vs.bind p n v
  give flow.Next
