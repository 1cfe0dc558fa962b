-- Calls whose arguments are all positional, of functions whose parameters are all plain names.
use Rattle.std.specs.Prelude.{◌≡◌, ℕ, Bool, true, false, List, [], ◌∷◌, length, map}
use Rattle.std.specs.List.{list_all}
use Rattle.star_store.specs.declared.values.Value.{Value}
use Rattle.star_tree.specs.declared.tree.Argument.{Argument}
use Rattle.star_tree.specs.declared.tree.Argument.TheOpen as tree
use Rattle.star_tree.specs.declared.tree.Expression.{Expression}
use Rattle.star_tree.specs.declared.tree.Name.{Name}
use Rattle.star_tree.specs.declared.tree.Parameter.{Parameter}
use Rattle.star_outline.specs.Syntax.{ArgumentForm, ParameterForm, argument, parameter}
use Rattle.star_meaning.specs.declared.given.Arguments.{Arguments}
use Rattle.star_meaning.specs.declared.site.Site.{Site}
use Rattle.star_meaning.specs.Arguments.{given}
use Rattle.star_meaning.specs.Binding.{BoundArgument, One}
use Rattle.star_meaning.specs.Calls.{callee, called, pass}
use Rattle.star_meaning.specs.Run.{Action, ◌>>=◌, each}
use Rattle.star_world.specs.World.{World, semantics}

-- the expression of an argument, and whether the argument is positional
abbrev pub expression_in : ArgumentForm → Expression
expression_in (tree.Positional e) = e
expression_in (tree.Named n e) = e
expression_in (tree.Argument-F.Argument::Star e) = e
expression_in (tree.Argument-F.Argument::StarStar e) = e

abbrev pub expression_of : Argument → Expression
expression_of a = expression_in (argument a)

abbrev pub is_positional_form : ArgumentForm → Bool
is_positional_form (tree.Positional e) = true
is_positional_form _ = false

abbrev pub is_positional : Argument → Bool
is_positional a = is_positional_form (argument a)

-- the rest of a call once the value of its callee is known
abbrev pub called_with : World → ℕ → Site → Value → List Argument → Action Value
called_with w levels p v es = do
  ps ← each (pass (semantics w levels) p) es
  c ← callee w.setting p.line v
  g ← given w.setting p.line ps
  called w.setting levels (semantics w levels) p c g

-- the same if all arguments are positional: their values are the arguments
abbrev pub called_positional : World → ℕ → Site → Value → List Argument → Action Value
called_positional w levels p v es = do
  vs ← each (λ a. (semantics w levels).expr p (expression_of a)) es
  c ← callee w.setting p.line v
  called w.setting levels (semantics w levels) p c (record { positional = vs; named = [] })

-- whether a parameter has a name alone
abbrev pub is_plain_form : ParameterForm → Bool
is_plain_form (tree.Plain n) = true
is_plain_form _ = false

abbrev pub is_plain : Parameter → Bool
is_plain p = is_plain_form (parameter p)

-- parameters with names alone, a positional value for each, and no keyword value
pub record FitPositionally (ps : List Parameter) (g : Arguments) : Type 0 where
  pub plain : list_all is_plain ps ≡ true
  pub as_many : length ps ≡ length g.positional
  pub unnamed : length g.named ≡ 0

-- the names of parameters, each with the value at its place; and the shares that they get
abbrev pub named_by : ParameterForm → Value → List (Name × Value) → List (Name × Value)
named_by (tree.Plain n) v rest = (n, v) ∷ rest
named_by _ v rest = rest

abbrev pub positional : List Parameter → List Value → List (Name × Value)
positional [] vs = []
positional (p ∷ ps) [] = []
positional (p ∷ ps) (v ∷ vs) = named_by (parameter p) v (positional ps vs)

abbrev pub positional_arguments : List Parameter → List Value → List (Name × BoundArgument)
positional_arguments ps vs = map (λ x. (x.0, One x.1)) (positional ps vs)
