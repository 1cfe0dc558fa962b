-- Values as data: the JSON of a value, if it has one.
use Rattle.std.specs.Prelude.{ℕ, zero, suc, ℤ, if◌then◌else◌, List, [], ◌∷◌, map, Option, Some, None, slice_get}
use Rattle.std.specs.Option.{option_and_then, option_map}
use Rattle.std.specs.Str.{is_utf8}
use Rattle.serde_json.specs.Data.{Data, Items, Members, array, boolean, item, no_items, no_members, null, number, object, put, string}
use Rattle.serde_json.specs.Find.{of_integer}
use Rattle.star_store.specs.Arithmetic.{fits}
use Rattle.star_store.specs.declared.values.Value.{Value}
use Rattle.star_store.specs.declared.values.Value.TheVariants as value
use Rattle.star_store.specs.declared.values.Cell.{Cell}
use Rattle.star_store.specs.declared.values.Cell.TheVariants as cell
use Rattle.star_store.specs.Store.{Shelf, published_cells}

-- rows whose items are all data
abbrev pub items_data : (Value → Option Data) → List Value → Option Items
items_data f [] = Some no_items
items_data f (x ∷ xs) = option_and_then (λ d. option_map (item d) (items_data f xs)) (f x)

-- the cell of a value that has one
abbrev pub cell_of : (Value → Option Cell) → Value → Option Cell
cell_of look (value.Ref h a) = look (value.Ref h a)
cell_of look _ = None

-- the bytes of a string
abbrev pub text_in : Option Cell → Option (List ℕ)
text_in (Some (cell.Text t)) = Some t
text_in _ = None

-- bytes that are UTF-8, as those of all strings of a run are
abbrev pub utf8_of : List ℕ → Option (List ℕ)
utf8_of t = if is_utf8 t then Some t else None

-- the bytes of a key that is a string
abbrev pub key_in : Option Cell → Option (List ℕ)
key_in o = option_and_then utf8_of (text_in o)

-- entries whose keys are all strings and whose values are all data: each at its key, in byte order of the keys
abbrev pub entries_data : (Value → Option Cell) → (Value → Option Data) → List (Value × Value) → Option Members
entries_data look f [] = Some no_members
entries_data look f (e ∷ es) =
    option_and_then (λ k. option_and_then (λ d. option_map (put k d) (entries_data look f es)) (f e.1))
    (key_in (cell_of look e.0))

-- fields whose values are all data: each at its name
abbrev pub fields_data : (Value → Option Data) → List (List ℕ × Value) → Option Members
fields_data f [] = Some no_members
fields_data f (e ∷ es) =
    option_and_then (λ k. option_and_then (λ d. option_map (put k d) (fields_data f es)) (f e.1)) (utf8_of e.0)

-- strings, lists, tuples and sets of data, dictionaries, structs; nothing else
abbrev pub cell_data : (Value → Option Cell) → (Value → Option Data) → Option Cell → Option Data
cell_data look f (Some (cell.Text t)) = option_map string (utf8_of t)
cell_data look f (Some (cell.Tuple xs)) = option_map array (items_data f xs)
cell_data look f (Some (cell.List xs)) = option_map array (items_data f xs)
cell_data look f (Some (cell.Dict es)) = option_map object (entries_data look f es)
cell_data look f (Some (cell.Struct fs)) = option_map object (fields_data f fs)
cell_data look f (Some (cell.Set es)) = option_map array (items_data f (map (λ e. e.0) es))
cell_data look f _ = None

-- ints of 64 bits, which all ints of a run are
abbrev pub int_data : ℤ → Option Data
int_data n = if fits n then Some (number (of_integer n)) else None

-- None, bools, ints, and values with a cell that is data. A built-in function is not data
abbrev pub value_data : (Value → Option Cell) → (Value → Option Data) → Value → Option Data
value_data look f value.NoneValue = Some null
value_data look f (value.Bool b) = Some (boolean b)
value_data look f (value.Int n) = int_data n
value_data look f (value.Ref h a) = cell_data look f (look (value.Ref h a))
value_data look f _ = None

-- the data of a value that nests less deep than this
unfoldable pub data_of : (Value → Option Cell) → ℕ → Value → Option Data
data_of look zero v = None
data_of look (suc depth) v = value_data look (data_of look depth) v

-- the cell that a value leads to among published modules alone
abbrev pub on_shelf : Shelf → Value → Option Cell
on_shelf shelf (value.Ref home at) = option_map (λ e. e.cell) (slice_get (published_cells (slice_get shelf home)) at)
on_shelf shelf _ = None
