-- Expressions, and the statements of each form, run with variables by their spots.
use Rattle.std.specs.Prelude.{ℕ, List}
use Rattle.star_store.specs.declared.values.Value.{Value}
use Rattle.star_tree.specs.declared.tree.Arm.{Arm}
use Rattle.star_tree.specs.declared.tree.BinaryOperator.{BinaryOperator}
use Rattle.star_tree.specs.declared.tree.Expression.{Expression}
use Rattle.star_tree.specs.declared.tree.LoadedName.{LoadedName}
use Rattle.star_tree.specs.declared.tree.Name.{Name}
use Rattle.star_tree.specs.declared.tree.Parameter.{Parameter}
use Rattle.star_tree.specs.declared.tree.Position.{Position}
use Rattle.star_tree.specs.declared.tree.Statement.{Statement}
use Rattle.star_tree.specs.declared.tree.Target.{Target}
use Rattle.star_outline.specs.Syntax.{ExpressionForm, form_of, position_of, target}
use Rattle.star_meaning.specs.declared.site.Flow.{Flow}
use Rattle.star_meaning.specs.declared.site.Flow.TheVariants as flow
use Rattle.star_meaning.specs.declared.site.Site.{Site}
use Rattle.star_meaning.specs.Expressions.{new_function, node}
use Rattle.star_meaning.specs.Semantics.{block}
use Rattle.star_meaning.specs.Run.{Action, ◌>>=◌, all_of, give}
use Rattle.star_meaning.specs.Statements.{arms, augment, load_name, loop, module_of, statement}
use Rattle.star_meaning.specs.Targets.{target_node, to_target}
use Rattle.star_world.specs.World.{World, semantics, variables}

-- an expression, whose parts may open this many levels
abbrev pub evaluating : World → ℕ → Site → ExpressionForm → Action Value
evaluating w levels p e = node (variables w) w.setting levels (semantics w levels) p e

-- a statement, whose parts may open this many levels
abbrev pub executing : World → ℕ → Site → Statement → Action Flow
executing w levels p s = statement (variables w) w.setting levels (semantics w levels) p (position_of s) (form_of s)

-- the target of an assignment, which gets this value
abbrev pub assigning : World → ℕ → Site → Target → Value → Action (Unit {0})
assigning w levels p t v = target_node (variables w) w.setting levels (semantics w levels) p (target t) v

-- an expression statement: its value is dropped
abbrev pub alone : World → ℕ → Site → Expression → Action Flow
alone w levels p e = (semantics w levels).expr p e >>= λ _. give flow.Next

abbrev pub assigned : World → ℕ → Site → Target → Expression → Action Flow
assigned w levels p t e = do
  v ← (semantics w levels).expr p e
  _ ← to_target (variables w) (semantics w levels) p t v
  give flow.Next

abbrev pub augmenting : World → ℕ → Site → BinaryOperator → Expression → Target → Action (Unit {0})
augmenting w levels p op e t = augment (variables w) w.setting levels (semantics w levels) p op e (target t)

abbrev pub augmented_by : World → ℕ → Site → BinaryOperator → Expression → Target → Action Flow
augmented_by w levels p op e t = augmenting w levels p op e t >>= λ _. give flow.Next

-- a load statement at this position
abbrev pub loaded : World → Site → Position → List LoadedName → Action Flow
loaded w p at names = all_of (load_name (variables w) p (module_of w.setting at)) names >>= λ _. give flow.Next

-- the arms of an `if`, and the statements of its `else`
abbrev pub choosing : World → ℕ → Site → List Arm → List Statement → Action Flow
choosing w levels p cases otherwise =
    arms w.setting (semantics w levels) p cases (block ((semantics w levels).stmt p) otherwise)

abbrev pub looped : World → ℕ → Site → Target → Expression → List Statement → Action Flow
looped w levels p t e body = (semantics w levels).expr p e >>= loop (variables w) w.setting
    (semantics w levels) p t body

-- a function that begins at this token, which its name is bound to
abbrev pub defined : World → ℕ → Site → ℕ → Name → List Parameter → Action Flow
defined w levels p token n ps = do
  v ← new_function (semantics w levels) p token n.text ps
  _ ← (variables w).bind p n v
  give flow.Next
