-- The JSON of values, over stores that do not change, by the levels and the steps that are left.
use Rattle.std.specs.Prelude.{ℕ, zero, suc, ◌+◌, nat_eq, Bool, List, [], ◌∷◌, ◌++◌, length, slice_get, Option, Some, None, if◌then◌else◌, codes}
use Rattle.std.specs.Option.{option_and_then, option_map}
use Rattle.std.specs.Fmt.{signed_decimal}
use Rattle.json.specs.Print.{quoted}
use Rattle.star_store.specs.declared.values.Value.{Value}
use Rattle.star_store.specs.declared.values.Value.TheVariants as value
use Rattle.star_store.specs.declared.values.Cell.{Cell}
use Rattle.star_store.specs.declared.values.Cell.TheVariants as cell
use Rattle.star_store.specs.declared.fault.StoreFault.TheVariants.{BadType, Deep}
use Rattle.star_store.specs.declared.layout.Layout.{Layout}
use Rattle.star_store.specs.declared.layout.Layout.TheVariants as layout
use Rattle.star_store.specs.Fields.{Fields, is_before}
use Rattle.star_store.specs.Sorting.{in_order}
use Rattle.star_store.specs.Spend.{Lacks, refuse, visited}
use Rattle.star_store.specs.Text.{Say, all_said, say, say_element, say_item, then_say}

-- a text this many times
abbrev pub times : ℕ → List ℕ → List ℕ
times zero t = []
times (suc n) t = t ++ times n t

-- a line end, and the beginning of a line where this many brackets are open
abbrev pub begun : List ℕ → List ℕ → ℕ → List ℕ
begun prefix indent depth = 10 ∷ prefix ++ times depth indent

abbrev pub line : Layout → ℕ → List ℕ
line layout.Compact depth = []
line (layout.Lines prefix indent) depth = begun prefix indent depth

-- what comes after a name
abbrev pub colon : Layout → List ℕ
colon layout.Compact = codes ":"
colon (layout.Lines prefix indent) = codes ": "

-- a comma comes before each item but the first
abbrev pub comma : ℕ → List ℕ
comma i = if nat_eq i 0 then [] else codes ","

-- the closing bracket of this many items is on a line of its own if there are any
abbrev pub closing : Layout → ℕ → ℕ → List ℕ
closing l depth count = if nat_eq count 0 then [] else line l depth

-- an item at a place
abbrev pub put_place : Layout → ℕ → (Value → Say) → List Value → ℕ → Say
put_place l depth f xs i = then_say (say (comma i ++ line l depth)) (say_item f (slice_get xs i))

abbrev pub put_items : Layout → ℕ → (Value → Say) → List Value → Say
put_items l depth f xs = all_said (put_place l depth f xs) (length xs) 0

-- items between brackets
abbrev pub put_array : Layout → ℕ → (Value → Say) → List Value → Say
put_array l depth f xs =
    then_say (say (codes "["))
    (then_say (put_items l (depth + 1) f xs) (say (closing l depth (length xs) ++ codes "]")))

-- an element of a set at a place
abbrev pub put_nth : Layout → ℕ → (Value → Say) → List (Value × Value) → ℕ → Say
put_nth l depth f es i = then_say (say (comma i ++ line l depth)) (say_element f (slice_get es i))

abbrev pub put_elements : Layout → ℕ → (Value → Say) → List (Value × Value) → Say
put_elements l depth f es = all_said (put_nth l depth f es) (length es) 0

-- the elements of a set between brackets
abbrev pub put_set : Layout → ℕ → (Value → Say) → List (Value × Value) → Say
put_set l depth f es =
    then_say (say (codes "["))
    (then_say (put_elements l (depth + 1) f es) (say (closing l depth (length es) ++ codes "]")))

-- a name, a colon and a value
abbrev pub put_named : Layout → (Value → Say) → Option (List ℕ × Value) → Say
put_named l f (Some e) = then_say (say (quoted e.0 ++ colon l)) (f e.1)
put_named l f None = say []

-- a member at a place
abbrev pub put_member : Layout → ℕ → (Value → Say) → Fields → ℕ → Say
put_member l depth f fs i = then_say (say (comma i ++ line l depth)) (put_named l f (slice_get fs i))

abbrev pub put_members : Layout → ℕ → (Value → Say) → Fields → Say
put_members l depth f fs = all_said (put_member l depth f fs) (length fs) 0

-- members between brackets
abbrev pub put_object : Layout → ℕ → (Value → Say) → Fields → Say
put_object l depth f fs =
    then_say (say (codes "{"))
    (then_say (put_members l (depth + 1) f fs) (say (closing l depth (length fs) ++ codes "}")))

-- the bytes of a key that is a string
abbrev pub name_in : Option Cell → Option (List ℕ)
name_in (Some (cell.Text t)) = Some t
name_in _ = None

-- entries whose keys are all strings, as names with values
abbrev pub named : (Value → Option Cell) → List (Value × Value) → Option Fields
named look [] = Some []
named look (e ∷ es) = option_and_then (λ n. option_map (λ fs. (n, e.1) ∷ fs) (named look es)) (name_in (look e.0))

-- the members of a dictionary, in byte order of their names
abbrev pub members : (Value → Option Cell) → List (Value × Value) → Option Fields
members look es = option_map (in_order is_before) (named look es)

abbrev pub put_dict : Layout → ℕ → (Value → Say) → Option Fields → Say
put_dict l depth f (Some fs) = put_object l depth f fs
put_dict l depth f None = λ out. refuse BadType

-- a string; lists, tuples and sets as arrays; structs, and dictionaries whose keys are all strings, as objects
abbrev pub put_cell : (Value → Option Cell) → Layout → ℕ → (ℕ → Value → Say) → Option Cell → Say
put_cell look l depth f (Some (cell.Text t)) = say (quoted t)
put_cell look l depth f (Some (cell.Tuple xs)) = put_array l depth (f (depth + 1)) xs
put_cell look l depth f (Some (cell.List xs)) = put_array l depth (f (depth + 1)) xs
put_cell look l depth f (Some (cell.Dict es)) = put_dict l depth (f (depth + 1)) (members look es)
put_cell look l depth f (Some (cell.Struct fs)) = put_object l depth (f (depth + 1)) fs
put_cell look l depth f (Some (cell.Set es)) = put_set l depth (f (depth + 1)) es
put_cell look l depth f _ = λ out. refuse BadType

abbrev pub bool_word : Bool → List ℕ
bool_word b = if b then codes "true" else codes "false"

abbrev pub put_value : (Value → Option Cell) → Layout → ℕ → (ℕ → Value → Say) → Value → Say
put_value look l depth f value.NoneValue = say (codes "null")
put_value look l depth f (value.Bool b) = say (bool_word b)
put_value look l depth f (value.Int n) = say (signed_decimal n)
put_value look l depth f (value.Builtin b) = λ out. refuse BadType
put_value look l depth f (value.Ref h a) = put_cell look l depth f (look (value.Ref h a))

-- the JSON of a value where this many brackets are open, if this many levels may be opened: a value opens one, and then
-- pays its visit
unfoldable pub json : (Value → Option Cell) → Layout → ℕ → ℕ → Value → Say
json look l zero depth v = λ out n. Lacks Deep n
json look l (suc levels) depth v = λ out. visited (put_value look l depth (json look l levels) v out)
