-- The binding of the arguments of a call to the parameters of a definition.
use Rattle.std.specs.Prelude.{ℕ, nat_eq, Bool, true, false, not, ◌||◌, List, [], ◌∷◌, ◌++◌, length, Option, Some, None, if◌then◌else◌}
use Rattle.std.specs.List.{list_any, find, filter}
use Rattle.std.specs.Option.{option_map, option_and_then}
use Rattle.star_store.specs.declared.values.Value.{Value}
use Rattle.star_tree.specs.declared.tree.Name.{Name}
use Rattle.star_tree.specs.declared.tree.Parameter.{Parameter}
use Rattle.star_tree.specs.declared.tree.Argument.TheOpen as tree
use Rattle.star_outline.specs.Syntax.{ParameterForm, parameter}
use Rattle.star_meaning.specs.Run.{Action, ◌>>=◌, give, each}
use Rattle.star_outline.specs.Names.{same_name}
use Rattle.star_meaning.specs.Values.{new_tuple, new_dict}
use Rattle.star_meaning.specs.declared.given.Arguments.{Arguments}
use Rattle.star_meaning.specs.declared.given.KeywordArgument.{KeywordArgument}
use Rattle.star_meaning.specs.Arguments.{is_given, key_for}

-- the argument of a parameter: a value, the positional arguments that are left, or the keyword arguments that are left
pub data BoundArgument : Type 0 where
  One : Value → BoundArgument
  Rest : List Value → BoundArgument
  Names : List KeywordArgument → BoundArgument

-- a parameter that takes a keyword argument
abbrev pub keyword_of : ParameterForm → Option (List ℕ)
keyword_of (tree.Plain n) = Some n.text
keyword_of (tree.Default n e) = Some n.text
keyword_of _ = None

-- the names of parameters that take keyword arguments
abbrev pub before_names : Option (List ℕ) → List (List ℕ) → List (List ℕ)
before_names None ns = ns
before_names (Some n) ns = n ∷ ns

abbrev pub keywords_of : List Parameter → List (List ℕ)
keywords_of [] = []
keywords_of (p ∷ ps) = before_names (keyword_of (parameter p)) (keywords_of ps)

-- the keyword arguments that name no parameter
abbrev pub is_extra : List (List ℕ) → KeywordArgument → Bool
is_extra names n = not (list_any (same_name n.name) names)

abbrev pub extra_keywords : List Parameter → List KeywordArgument → List KeywordArgument
extra_keywords ps ns = filter (is_extra (keywords_of ps)) ns

-- the value of a keyword argument
abbrev pub value_named : List ℕ → List KeywordArgument → Option Value
value_named name ns = option_map (λ n. n.value) (find (λ n. same_name n.name name) ns)

abbrev pub else_default : Option Value → Option Value → Option Value
else_default (Some v) d = Some v
else_default None d = d

-- the state of binding: whether positional arguments can still be taken, those that are left, and the defaults that are
-- left
pub record BindingState : Type 0 where
  pub by_name : Bool
  pub positional : List Value
  pub defaults : List Value

abbrev pub first_of_row : List Value → Option Value
first_of_row [] = None
first_of_row (x ∷ xs) = Some x

abbrev pub rest_of_row : List Value → List Value
rest_of_row [] = []
rest_of_row (x ∷ xs) = xs

-- an argument, and the state after it; nothing if the arguments do not fit
abbrev pub Step : Type 0
Step = Option (List (Name × BoundArgument) × BindingState)

abbrev pub shared : Name → BindingState → Option Value → Step
shared n q None = None
shared n q (Some v) = Some ((n, One v) ∷ [], q)

-- a parameter with a name: the next positional value, without a keyword one for it; else the keyword one; else the
-- default
abbrev pub argument_of : Name → List KeywordArgument → Option Value → BindingState → List Value → Step
argument_of n ns d q (x ∷ xs) = if is_given n.text ns then None
    else Some ((n, One x) ∷ [], record q { positional = xs })
argument_of n ns d q [] = shared n q (else_default (value_named n.text ns) d)

abbrev pub argument_by : Name → List KeywordArgument → Option Value → BindingState → Step
argument_by n ns d q = if q.by_name then shared n q (else_default (value_named n.text ns) d)
    else argument_of n ns d q q.positional

-- a parameter's share
abbrev pub step : List KeywordArgument → List KeywordArgument → BindingState → ParameterForm → Step
step ns left q (tree.Plain n) = argument_by n ns None q
step ns left q (tree.Default n e) =
    argument_by n ns (first_of_row q.defaults) (record q { defaults = rest_of_row q.defaults })
step ns left q (tree.Parameter-F.Parameter::Star n) =
    Some ((n, Rest q.positional) ∷ [], record q { by_name = true; positional = [] })
step ns left q tree.BareStar = Some ([], record q { by_name = true })
step ns left q (tree.Parameter-F.Parameter::StarStar n) = Some ((n, Names left) ∷ [], q)

abbrev pub also : List (Name × BoundArgument) → Option (List (Name × BoundArgument))
    → Option (List (Name × BoundArgument))
also xs None = None
also xs (Some ys) = Some (xs ++ ys)

-- the shares of parameters in order; in the end no positional value may be left
abbrev pub shares : List KeywordArgument → List KeywordArgument → List Parameter → BindingState
    → Option (List (Name × BoundArgument))
shares ns left [] q = if nat_eq (length q.positional) 0 then Some [] else None
shares ns left (p ∷ ps) q = option_and_then (λ r. also r.0 (shares ns left ps r.1)) (step ns left q (parameter p))

-- whether keyword arguments that name no parameter are taken
abbrev pub takes_names : ParameterForm → Bool
takes_names (tree.Parameter-F.Parameter::StarStar n) = true
takes_names _ = false

-- the argument of each parameter; nothing if one is missing, left over, unknown or given twice
unfoldable pub bound_to : List Parameter → List Value → Arguments → Option (List (Name × BoundArgument))
bound_to ps defaults g =
    if nat_eq (length (extra_keywords ps g.named)) 0 || list_any (λ p. takes_names (parameter p)) ps
    then shares g.named (extra_keywords ps g.named) ps (
    record { by_name = false; positional = g.positional; defaults = defaults })
    else None

-- the entries of `**name`: first the strings of the names, in order; no key is checked
abbrev pub key_and_value : ℕ → KeywordArgument → Action (Value × Value)
key_and_value line n = key_for line n >>= λ k. give (k, n.value)

-- a share as a value: `*name` is a new tuple, `**name` a new dictionary
abbrev pub build_argument : ℕ → BoundArgument → Action Value
build_argument line (One v) = give v
build_argument line (Rest xs) = new_tuple line xs
build_argument line (Names ns) = each (key_and_value line) ns >>= new_dict line

unfoldable pub build_arguments : ℕ → List (Name × BoundArgument) → Action (List (Name × Value))
build_arguments line xs = each (λ x. build_argument line x.1 >>= λ v. give (x.0, v)) xs
