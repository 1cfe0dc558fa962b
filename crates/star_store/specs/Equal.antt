-- Equality of values, over stores that do not change, by the levels and the steps that are left.
use Rattle.std.specs.Prelude.{ℕ, zero, suc, nat_eq, Bool, true, false, ◌&&◌, List, length, Option, Some, None, slice_get, if◌then◌else◌}
use Rattle.std.specs.Ordering.{int_eq}
use Rattle.std.specs.Bool.{beq}
use Rattle.std.specs.Cmp.Lexicographic.{pointwise}
use Rattle.star_store.specs.declared.values.Value.{Value}
use Rattle.star_store.specs.declared.values.Value.TheVariants as value
use Rattle.star_store.specs.declared.values.Cell.{Cell}
use Rattle.star_store.specs.declared.values.Cell.TheVariants as cell
use Rattle.star_store.specs.declared.fault.StoreFault.TheVariants.{Deep}
use Rattle.star_store.specs.Fields.{Fields, names_of, same_names, values_of}
use Rattle.star_store.specs.Names.{built_in_number}
use Rattle.star_store.specs.Spend.{Spend, Lacks, answer, visited, all_places}
use Rattle.star_store.specs.Index.{entries_of}
use Rattle.star_store.specs.Key.{value_of}
use Rattle.star_store.specs.Range.{same_range}

-- a pair of values, if both are there
abbrev pub same_pair : (Value → Value → Spend Bool) → Option Value → Option Value → Spend Bool
same_pair f (Some x) (Some y) = f x y
same_pair f _ _ = answer true

-- the items of two rows at a place
abbrev pub same_place : (Value → Value → Spend Bool) → List Value → List Value → ℕ → Spend Bool
same_place f xs ys i = same_pair f (slice_get xs i) (slice_get ys i)

-- rows of items: their lengths first, then the items in order, up to the first difference
abbrev pub same_items : (Value → Value → Spend Bool) → List Value → List Value → Spend Bool
same_items f xs ys =
    if nat_eq (length xs) (length ys) then all_places (same_place f xs ys) (length xs) 0 else answer false

-- a value, and the one that is found for its key
abbrev pub same_found : (Value → Value → Spend Bool) → Value → Option Value → Spend Bool
same_found f x (Some y) = f x y
same_found f x None = answer false

-- an entry of the left dictionary: its key is looked up in the right one
abbrev pub same_pairs : (Value → Option Cell) → (Value → Value → Spend Bool) → List (Value × Value)
    → Option (Value × Value) → Spend Bool
same_pairs look f ys (Some e) = same_found f e.1 (value_of look e.0 ys)
same_pairs look f ys None = answer true

-- the left dictionary's entry at a place
abbrev pub same_entry : (Value → Option Cell) → (Value → Value → Spend Bool) → List (Value × Value)
    → List (Value × Value) → ℕ → Spend Bool
same_entry look f xs ys i = same_pairs look f ys (slice_get xs i)

-- dictionaries: their numbers of entries first, then the left one's entries in order, up to the first difference
abbrev pub same_entries : (Value → Option Cell) → (Value → Value → Spend Bool) → List (Value × Value)
    → List (Value × Value) → Spend Bool
same_entries look f xs ys =
    if nat_eq (length xs) (length ys) then all_places (same_entry look f xs ys) (length xs) 0 else answer false

-- structs: their names first, then the values in their order, up to the first difference
abbrev pub same_fields : (Value → Value → Spend Bool) → Fields → Fields → Spend Bool
same_fields f s t =
    if same_names (names_of s) (names_of t) then same_items f (values_of s) (values_of t) else answer false

-- two cells, which may be one; functions and bound methods are equal if they are one cell, sets as dictionaries whose
-- values are all None
abbrev pub same_cells : (Value → Option Cell) → (Value → Value → Spend Bool) → Bool → Option Cell → Option Cell
    → Spend Bool
same_cells look f one (Some (cell.Text t)) (Some (cell.Text u)) = answer (pointwise nat_eq t u)
same_cells look f one (Some (cell.Range r)) (Some (cell.Range s)) = answer (same_range r s)
same_cells look f one (Some (cell.Tuple xs)) (Some (cell.Tuple ys)) = same_items f xs ys
same_cells look f one (Some (cell.List xs)) (Some (cell.List ys)) = same_items f xs ys
same_cells look f one (Some (cell.Dict xs)) (Some (cell.Dict ys)) = same_entries look f xs ys
same_cells look f one (Some (cell.Set xs)) (Some (cell.Set ys)) = same_entries look f xs ys
same_cells look f one (Some (cell.Func g)) (Some (cell.Func h)) = answer one
same_cells look f one (Some (cell.Bound m x)) (Some (cell.Bound n y)) = answer one
same_cells look f one (Some (cell.Struct s)) (Some (cell.Struct t)) = same_fields f s t
same_cells look f one _ _ = answer false

-- two values; values of different types are unequal
abbrev pub same_values : (Value → Option Cell) → (Value → Value → Spend Bool) → Value → Value → Spend Bool
same_values look f value.NoneValue value.NoneValue = answer true
same_values look f (value.Bool b) (value.Bool c) = answer (beq b c)
same_values look f (value.Int m) (value.Int n) = answer (int_eq m n)
same_values look f (value.Builtin b) (value.Builtin c) = answer (nat_eq (built_in_number b) (built_in_number c))
same_values look f (value.Ref h a) (value.Ref k b) =
    same_cells look f (nat_eq h k && nat_eq a b) (look (value.Ref h a)) (look (value.Ref k b))
same_values look f _ _ = answer false

-- whether two values are equal, if this many levels may be opened: a pair opens one, and then pays its visit
unfoldable pub same : (Value → Option Cell) → ℕ → Value → Value → Spend Bool
same look zero x y = λ n. Lacks Deep n
same look (suc levels) x y = visited (same_values look (same look levels) x y)

-- the cells that two values lead to, which may be one, if this many levels may be opened in them
abbrev pub same_read : (Value → Option Cell) → ℕ → Bool → Value → Value → Spend Bool
same_read look levels one x y = same_cells look (same look levels) one (look x) (look y)

-- the entries of the dictionaries that two values lead to
abbrev pub same_dicts : (Value → Option Cell) → ℕ → Value → Value → Spend Bool
same_dicts look levels x y = same_entries look (same look levels) (entries_of (look x)) (entries_of (look y))

-- the left one's entry at a place
abbrev pub same_dict_entry : (Value → Option Cell) → ℕ → Value → Value → ℕ → Spend Bool
same_dict_entry look levels x y i = same_entry look (same look levels) (entries_of (look x)) (entries_of (look y)) i
