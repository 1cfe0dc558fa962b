-- The definitions of a file.
use Rattle.std.specs.Prelude.{ℕ, nat_eq, List, [], ◌∷◌, Option}
use Rattle.std.specs.List.{Contains, find}
use Rattle.star_tree.specs.declared.tree.Expression.{Expression}
use Rattle.star_tree.specs.declared.tree.Parameter.{Parameter}
use Rattle.star_tree.specs.declared.tree.Statement.{Statement}
use Rattle.star_outline.specs.declared.outline.Body.{Body as OneBody}
use Rattle.star_outline.specs.declared.outline.Body.TheVariants as one
use Rattle.star_outline.specs.declared.outline.Definition.{Definition as OneDefinition}

-- the body of a definition: the statements of a `def`, or the expression of a `lambda`
pub data Body : Type 0 where
  Statements : List Statement → Body
  Answer : Expression → Body

-- a definition, by the number of its first token
pub record Definition : Type 0 where
  pub number : ℕ
  pub parameters : List Parameter
  pub body : Body

-- the definition with this number
abbrev pub definition_in : List Definition → ℕ → Option Definition
definition_in definitions number = find (λ d. nat_eq d.number number) definitions

-- no number occurs twice
abbrev pub AllDiffer : List ℕ → Type 0
AllDiffer [] = Unit {0}
AllDiffer (n ∷ ns) = (Contains ns n → ⊥) × AllDiffer ns

-- a definition that the code has by references
abbrev pub body_of : OneBody → Body
body_of (one.Statements ss) = Statements ss.now
body_of (one.Answer e) = Answer e.now

abbrev pub definition_of : OneDefinition → Definition
definition_of d = record { number = d.number; parameters = d.parameters.now; body = body_of d.body }
