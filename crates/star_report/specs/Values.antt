-- The values that a module shows: the values of its globals whose names do not begin with `_`.
use Rattle.std.specs.Prelude.{ℕ, Bool, not, ◌&&◌, List, Option, Some, None, codes, fold, is_some, map, option_and_then, if◌then◌else◌}
use Rattle.std.specs.List.{filter}
use Rattle.serde_json.specs.Data.{Data, Members, array, member, no_members, object, put, string}
use Rattle.serde_json.specs.View.{items_of}
use Rattle.star_store.specs.declared.values.Value.{Value}
use Rattle.star_store.specs.declared.values.Cell.{Cell}
use Rattle.star_store.specs.Store.{global_of}
use Rattle.star_data.specs.Data.{data_of, on_shelf}
use Rattle.star_scope.specs.Loads.{is_private}
use Rattle.star_meaning.specs.Module.{Good, most_levels}
use Rattle.star_plan.specs.Results.{Outcome, Ran}

-- a global as data, by its name: it nests at most as deep as a value whose text was made
abbrev pub global_data : (Value → Option Cell) → List (List ℕ × Value) → List ℕ → Option Data
global_data look globals name = option_and_then (data_of look most_levels) (global_of name globals)

-- one more global that is data, unless its name is private
abbrev pub put_some : List ℕ → Option Data → Members → Members
put_some name (Some d) ms = put name d ms
put_some name None ms = ms

abbrev pub with_value : (List ℕ → Option Data) → Members → List ℕ → Members
with_value f ms name = if is_private name then ms else put_some name (f name) ms

-- a name that is not private, of a global that is not data
abbrev pub is_opaque : (List ℕ → Option Data) → List ℕ → Bool
is_opaque f name = not (is_private name) && not (is_some (f name))

-- the globals of these names that are data, each at its name
abbrev pub shown_values : (List ℕ → Option Data) → List (List ℕ) → Members
shown_values f names = fold (with_value f) no_members names

-- the names of the others, in order
abbrev pub opaque_names : (List ℕ → Option Data) → List (List ℕ) → List (List ℕ)
opaque_names f names = filter (is_opaque f) names

-- the members `opaque` and `values`, of globals with these names
abbrev pub value_members_by : (List ℕ → Option Data) → List (List ℕ) → Members
value_members_by f names =
    member (codes "opaque") (array (items_of (map string (opaque_names f names))))
    (member (codes "values") (object (shown_values f names)) no_members)

-- the members of a module that ended well. Any other module has none
abbrev pub value_members : Outcome → Members
value_members (Ran (Good shelf globals texts lines)) =
    value_members_by (global_data (on_shelf shelf) globals) (map (λ g. g.0) texts)
value_members o = no_members
