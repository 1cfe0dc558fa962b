-- Calls: the argument that each parameter gets.
use Rattle.std.specs.Prelude.{◌≡◌, ℕ, Bool, true, false, List, length, take, drop, Option, Some, None, slice_get}
use Rattle.std.specs.List.{filter}
use Rattle.std.specs.Option.{option_map}
use Rattle.star_store.specs.declared.values.Value.{Value}
use Rattle.star_tree.specs.declared.tree.Name.{Name}
use Rattle.star_tree.specs.declared.tree.Parameter.{Parameter}
use Rattle.star_tree.specs.declared.tree.Argument.TheOpen as tree
use Rattle.star_outline.specs.Syntax.{ParameterForm, parameter}
use Rattle.star_meaning.specs.declared.given.Arguments.{Arguments}
use Rattle.star_meaning.specs.Binding.{Names, One, Rest, BoundArgument, bound_to, else_default, keywords_of, extra_keywords, value_named}
use Rattle.star_laws.specs.Calls.{IsPositional, before_star, has_default, parameter_at}

-- a bare `*` gets nothing
abbrev pub gets_some : ParameterForm → Bool
gets_some tree.BareStar = false
gets_some _ = true

-- the index of a parameter's argument: after the arguments of the parameters before it
abbrev pub place_at : List Parameter → ℕ → ℕ
place_at ps i = length (filter (λ p. gets_some (parameter p)) (take i ps))

-- one value under a name
abbrev pub single : Name → Option Value → Option (Name × BoundArgument)
single n o = option_map (λ v. (n, One v)) o

-- the positional argument after the arguments of the names before, else the keyword argument, else the default
abbrev pub GetsOne : List Parameter → Arguments → ℕ → Name → Option Value → Option (Name × BoundArgument) → Type 0
GetsOne ps g i n d x =
    (IsPositional ps g.positional i → x ≡ single n (slice_get g.positional (length (keywords_of (take i ps)))))
    × ((IsPositional ps g.positional i → ⊥) → x ≡ single n (else_default (value_named n.text g.named) d))

-- the argument of a parameter: `*name` gets the positional arguments after those of the names before it, `**name` the
-- keyword arguments that name no parameter
abbrev pub Gets : List Parameter → List Value → Arguments → ℕ → ParameterForm → Option (Name × BoundArgument) → Type 0
Gets ps ds g i (tree.Plain n) x = GetsOne ps g i n None x
Gets ps ds g i (tree.Default n e) x =
    GetsOne ps g i n (slice_get ds (length (filter (λ p. has_default (parameter p)) (take i ps)))) x
Gets ps ds g i (tree.Parameter-F.Parameter::Star n) x =
    i ≡ length (before_star ps) → x ≡ Some (n, Rest (drop (length (keywords_of (take i ps))) g.positional))
Gets ps ds g i tree.BareStar x = Unit {0}
Gets ps ds g i (tree.Parameter-F.Parameter::StarStar n) x = x ≡ Some (n, Names (extra_keywords ps g.named))

-- The law: if arguments are bound, there is one for each parameter but a bare `*`, in order, and each gets its own.
abbrev pub BoundAsGiven : Type 0
BoundAsGiven =
    (ps : List Parameter) (defaults : List Value) (g : Arguments) (xs : List (Name × BoundArgument))
    → bound_to ps defaults g
    ≡ Some xs
    → (length xs ≡ length (filter (λ p. gets_some (parameter p)) ps))
    × ((i : ℕ) (f : ParameterForm) → parameter_at ps i ≡ Some f → Gets ps defaults g i f (slice_get xs (place_at ps i)))
