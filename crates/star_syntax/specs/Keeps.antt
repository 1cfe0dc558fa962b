-- Rules of a tree beside the grammar: the order of parameters and of arguments, and the forms of targets.
use Rattle.std.specs.Prelude.{Bool, true, false, ◌&&◌, if◌then◌else◌, List, [], ◌∷◌, map, Option, Some, None}
use Rattle.star_tree.specs.declared.tree.Argument.TheOpen.{Expression-F}
use Rattle.star_tree.specs.declared.tree.Expression.{Expression, out-Expression, para-Expression}
use Rattle.star_tree.specs.declared.tree.Argument.{Argument}
use Rattle.star_tree.specs.declared.tree.Argument.TheVariants as argument
use Rattle.star_tree.specs.declared.tree.Parameter.{Parameter}
use Rattle.star_tree.specs.declared.tree.Parameter.TheVariants as parameter
use Rattle.star_tree.specs.declared.tree.Target.{Target}
use Rattle.star_tree.specs.declared.tree.Target.TheVariants as target

-- a value, if it passes a test
abbrev pub keep : {A : Type 0} → (A → Bool) → A → Option A
keep test x = if test x then Some x else None

abbrev pub is_last : {A : Type 0} → List A → Bool
is_last [] = true
is_last (x ∷ more) = false

-- ---- arguments

-- after the positional arguments: named ones, at most one with a star among them, and at the end at most one with two
-- stars
abbrev pub named_in_order : Bool → List Argument → Bool
named_in_order star_may_come [] = true
named_in_order star_may_come (argument.Positional x ∷ more) = false
named_in_order star_may_come (argument.Named name x ∷ more) = named_in_order star_may_come more
named_in_order star_may_come (argument.Star x ∷ more) = star_may_come && named_in_order false more
named_in_order star_may_come (argument.StarStar x ∷ more) = is_last more

abbrev pub arguments_in_order : List Argument → Bool
arguments_in_order [] = true
arguments_in_order (argument.Positional x ∷ more) = arguments_in_order more
arguments_in_order (argument.Named name x ∷ more) = named_in_order true more
arguments_in_order (argument.Star x ∷ more) = named_in_order false more
arguments_in_order (argument.StarStar x ∷ more) = is_last more

-- ---- parameters

-- after a star: names with or without a default, and at the end at most one with two stars
abbrev pub starred_in_order : List Parameter → Bool
starred_in_order [] = true
starred_in_order (parameter.Plain name ∷ more) = starred_in_order more
starred_in_order (parameter.Default name x ∷ more) = starred_in_order more
starred_in_order (parameter.Star name ∷ more) = false
starred_in_order (parameter.BareStar ∷ more) = false
starred_in_order (parameter.StarStar name ∷ more) = is_last more

-- a name, with or without a default, comes next
abbrev pub name_follows : List Parameter → Bool
name_follows (parameter.Plain name ∷ more) = true
name_follows (parameter.Default name x ∷ more) = true
name_follows _ = false

-- after a name with a default: names with a default; then a star
abbrev pub defaults_in_order : List Parameter → Bool
defaults_in_order [] = true
defaults_in_order (parameter.Plain name ∷ more) = false
defaults_in_order (parameter.Default name x ∷ more) = defaults_in_order more
defaults_in_order (parameter.Star name ∷ more) = starred_in_order more
defaults_in_order (parameter.BareStar ∷ more) = name_follows more && starred_in_order more
defaults_in_order (parameter.StarStar name ∷ more) = is_last more

-- names; then names with a default; then a star, with a name or alone; then names with or without a default; then two
-- stars. A star alone has a name after it.
abbrev pub parameters_in_order : List Parameter → Bool
parameters_in_order [] = true
parameters_in_order (parameter.Plain name ∷ more) = parameters_in_order more
parameters_in_order (parameter.Default name x ∷ more) = defaults_in_order more
parameters_in_order (parameter.Star name ∷ more) = starred_in_order more
parameters_in_order (parameter.BareStar ∷ more) = name_follows more && starred_in_order more
parameters_in_order (parameter.StarStar name ∷ more) = is_last more

-- ---- targets

-- the values, if all are there
abbrev pub all_of : {A B : Type 0} → List (A × Option B) → Option (List B)
all_of [] = Some []
all_of (x ∷ more) = elim x.1 [ None ↦ None | Some y ↦ elim (all_of more) [ None ↦ None | Some ys ↦ Some (y ∷ ys) ] ]

abbrev pub tuple_target : Option (List Target) → Option Target
tuple_target None = None
tuple_target (Some all) = Some (target.Tuple all)

abbrev pub list_target : Option (List Target) → Option Target
list_target None = None
list_target (Some all) = Some (target.List all)

-- one level, with the target of each part beside it
abbrev pub target_step : {A B D E F G : Type 0} → Expression-F A B (Expression × Option Target) D E F G → Option Target
target_step (Expression-F.Expression::Name name) = Some (target.Name name)
target_step (Expression-F.Expression::Index value index) = Some (target.Index value.0 index.0)
target_step (Expression-F.Expression::Tuple parts) = tuple_target (all_of parts)
target_step (Expression-F.Expression::List parts) = list_target (all_of parts)
target_step _ = None

abbrev pub nothing_of : {A : Type 0} → A → Unit {0}
nothing_of x = tt

-- a name, an index, or a tuple or list display of targets
unfoldable pub target_of : Expression → Option Target
target_of =
    para-Expression (Unit {0}) (Unit {0}) (Option Target) (Unit {0}) (Unit {0}) (Unit {0}) (Unit {0}) nothing_of
    nothing_of target_step nothing_of nothing_of nothing_of nothing_of

abbrev pub augmented_level : {A B D E F G : Type 0} → Expression-F A B Expression D E F G → Option Target
augmented_level (Expression-F.Expression::Name name) = Some (target.Name name)
augmented_level (Expression-F.Expression::Index value index) = Some (target.Index value index)
augmented_level _ = None

-- a name or an index
abbrev pub augmented_of : Expression → Option Target
augmented_of x = augmented_level (out-Expression x)

-- the targets that expressions are, if each is one
unfoldable pub targets_of : List Expression → Option (List Target)
targets_of xs = all_of (map (λ x. (x, target_of x)) xs)
