-- Calls: when the arguments of a call fit the parameters of a function.
use Rattle.std.specs.Prelude.{◌≡◌, ◌≤◌, ◌<◌, ◌⊎◌, ◌↔◌, ℕ, Bool, true, false, List, [], ◌∷◌, length, take, Option, Some, is_some, slice_get, if◌then◌else◌}
use Rattle.std.specs.List.{filter, list_any}
use Rattle.std.specs.Option.{option_and_then, option_map}
use Rattle.star_store.specs.declared.values.Value.{Value}
use Rattle.star_tree.specs.declared.tree.Name.{Name}
use Rattle.star_tree.specs.declared.tree.Parameter.{Parameter}
use Rattle.star_tree.specs.declared.tree.Argument.TheOpen as tree
use Rattle.star_outline.specs.Syntax.{ParameterForm, parameter}
use Rattle.star_meaning.specs.declared.given.Arguments.{Arguments}
use Rattle.star_meaning.specs.declared.given.KeywordArgument.{KeywordArgument}
use Rattle.star_meaning.specs.Arguments.{EvaluatedArgument, given, is_given}
use Rattle.star_meaning.specs.Program.{Setting}
use Rattle.star_meaning.specs.Run.{State, Done}
use Rattle.star_meaning.specs.Binding.{bound_to, keyword_of, keywords_of, takes_names}

-- `*name` and a bare `*`
abbrev pub is_star : ParameterForm → Bool
is_star (tree.Parameter-F.Parameter::Star n) = true
is_star tree.BareStar = true
is_star _ = false

-- `*name`, which takes the positional arguments that are left
abbrev pub takes_rest : ParameterForm → Bool
takes_rest (tree.Parameter-F.Parameter::Star n) = true
takes_rest _ = false

-- `name = default`
abbrev pub has_default : ParameterForm → Bool
has_default (tree.Default n e) = true
has_default _ = false

-- the parameters before the star
abbrev pub before_star : List Parameter → List Parameter
before_star [] = []
before_star (p ∷ ps) = if is_star (parameter p) then [] else p ∷ before_star ps

-- the parameter at a position, and the name of one that takes one value
abbrev pub parameter_at : List Parameter → ℕ → Option ParameterForm
parameter_at ps i = option_map parameter (slice_get ps i)

abbrev pub named_at : List Parameter → ℕ → Option (List ℕ)
named_at ps i = option_and_then keyword_of (parameter_at ps i)

-- a parameter gets a positional argument if it comes before the star, and there are more of these than names before its
-- own
abbrev pub IsPositional : List Parameter → List Value → ℕ → Type 0
IsPositional ps vs i = (i < length (before_star ps)) × (length (keywords_of (take i ps)) < length vs)

-- when the arguments of a call fit the parameters
pub record Fits (ps : List Parameter) (g : Arguments) : Type 0 where
  -- a parameter without a default gets a positional or a keyword argument
  pub needed : (i : ℕ) (n : Name) → parameter_at ps i ≡ Some (tree.Plain n) → IsPositional ps g.positional i
      ⊎ (is_given n.text g.named ≡ true)
  -- no parameter gets both
  pub once : (i : ℕ) (name : List ℕ) → named_at ps i ≡ Some name → IsPositional ps g.positional i
      → is_given name g.named
      ≡ false
  -- each positional argument has a name before the star, or `*name` takes it
  pub placed : (length g.positional ≤ length (keywords_of (before_star ps)))
      ⊎ (list_any (λ p. takes_rest (parameter p)) ps ≡ true)
  -- each keyword argument has the name of a parameter, or `**name` takes it
  pub known : ((j : ℕ) (n : KeywordArgument) → slice_get g.named j ≡ Some n → (i : ℕ) × (named_at ps i ≡ Some n.name))
      ⊎ (list_any (λ p. takes_names (parameter p)) ps ≡ true)

-- The law: if the defaults of the parameters are there, arguments are bound to parameters exactly if they fit them.
abbrev pub BoundWhereTheyFit : Type 0
BoundWhereTheyFit = (ps : List Parameter) (defaults : List Value) (g : Arguments)
    → length (filter (λ p. has_default (parameter p)) ps) ≤ length defaults → is_some (bound_to ps defaults g) ≡ true
    ↔ Fits ps g

-- The law: no two keyword arguments of a call have the same name.
abbrev pub GivenNamesDiffer : Type 0
GivenNamesDiffer = (w : Setting) (line : ℕ) (ps : List EvaluatedArgument) (s t : State) (g : Arguments)
    → given w line ps s ≡ Done g t
    → (i j : ℕ) (m n : KeywordArgument) → slice_get g.named i ≡ Some m → slice_get g.named j ≡ Some n
    → m.name ≡ n.name → i
    ≡ j
