-- The record of the parts of a program that open a level (`Semantics`), and how statements and loops follow on one
-- another.
use Rattle.std.specs.Prelude.{ℕ, zero, suc, ◌+◌, List, [], ◌∷◌}
use Rattle.star_store.specs.declared.values.Value.{Value}
use Rattle.star_store.specs.declared.values.Function.{Function}
use Rattle.star_tree.specs.declared.tree.Expression.{Expression}
use Rattle.star_tree.specs.declared.tree.Target.{Target}
use Rattle.star_tree.specs.declared.tree.Statement.{Statement}
use Rattle.star_tree.specs.declared.tree.Name.{Name}
use Rattle.star_meaning.specs.declared.site.Site.{Site}
use Rattle.star_meaning.specs.declared.site.Flow.{Flow}
use Rattle.star_meaning.specs.declared.site.Flow.TheVariants as flow
use Rattle.star_meaning.specs.Run.{Action, ◌>>=◌, give}
use Rattle.star_outline.specs.Definitions.{Definition}
use Rattle.star_meaning.specs.Binding.{BoundArgument}

-- the value of an index target, and its old item: read before an augmented assignment
pub record Read : Type 0 where
  pub base : Value
  pub index : Value
  pub old : Value

-- The value of an expression, the effect of a statement, and the assignment to a target that is not a plain name. Also
-- the parts of an index target with their old value, and a call of a function with the arguments of its parameters.
pub record Semantics : Type 0 where
  pub expr : Site → Expression → Action Value
  pub stmt : Site → Statement → Action Flow
  pub assign : Site → Target → Value → Action (Unit {0})
  pub parts : Site → Expression → Expression → Action Read
  pub call : Site → Function → Definition → List (Name × BoundArgument) → Action Value

-- goes on if nothing ends the statements
abbrev pub then_go : Action Flow → Flow → Action Flow
then_go rest flow.Next = rest
then_go rest other = give other

-- statements in order
abbrev pub block : {A : Type 0} → (A → Action Flow) → List A → Action Flow
block f [] = give flow.Next
block f (x ∷ xs) = f x >>= then_go (block f xs)

-- a turn of a loop: the next one follows, or the loop ends
abbrev pub then_turn : Action Flow → Flow → Action Flow
then_turn rest flow.Next = rest
then_turn rest flow.Continue = rest
then_turn rest flow.Break = give flow.Next
then_turn rest (flow.Return v) = give (flow.Return v)

-- a number of turns of a loop, from its i-th on
abbrev pub turns : (ℕ → Action Flow) → ℕ → ℕ → Action Flow
turns f zero i = give flow.Next
turns f (suc n) i = f i >>= then_turn (turns f n (i + 1))

-- a number of turns of a clause, from its i-th on
abbrev pub repeat : (ℕ → Action (Unit {0})) → ℕ → ℕ → Action (Unit {0})
repeat f zero i = give tt
repeat f (suc n) i = f i >>= λ _. repeat f n (i + 1)
