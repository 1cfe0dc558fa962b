-- Keys: which values are hashable, which two are the same key, and the place of an entry by its key.
use Rattle.std.specs.Prelude.{ℕ, zero, suc, ◌+◌, nat_eq, Bool, true, false, ◌&&◌, List, [], ◌∷◌, length, Option, Some, slice_get, if◌then◌else◌, Result, Ok, Err}
use Rattle.std.specs.List.{list_all, position}
use Rattle.std.specs.Option.{option_and_then, option_map}
use Rattle.std.specs.Ordering.{int_eq}
use Rattle.std.specs.Bool.{beq}
use Rattle.std.specs.Cmp.Lexicographic.{pointwise}
use Rattle.star_store.specs.declared.values.Value.{Value}
use Rattle.star_store.specs.declared.values.Value.TheVariants as value
use Rattle.star_store.specs.declared.values.Cell.{Cell}
use Rattle.star_store.specs.declared.values.Cell.TheVariants as cell
use Rattle.star_store.specs.declared.fault.StoreFault.{StoreFault}
use Rattle.star_store.specs.declared.fault.StoreFault.TheVariants.{BadType, Deep}
use Rattle.star_store.specs.Fields.{Fields, names_of, same_names, values_of}
use Rattle.star_store.specs.Spend.{Spend, Lacks, answer, refuse, spend_then, visited}

-- a key's tuples and structs nest at most 400 deep, and another value may be inside
abbrev pub key_levels : ℕ
key_levels = 401

-- strings are keys, and tuples and structs of keys
abbrev pub key_cell : (Value → Bool) → Option Cell → Bool
key_cell f (Some (cell.Text t)) = true
key_cell f (Some (cell.Tuple xs)) = list_all f xs
key_cell f (Some (cell.Struct fs)) = list_all f (values_of fs)
key_cell f _ = false

-- None, bools and ints are keys
abbrev pub key_value : (Value → Option Cell) → (Value → Bool) → Value → Bool
key_value look f value.NoneValue = true
key_value look f (value.Bool b) = true
key_value look f (value.Int n) = true
key_value look f (value.Ref h a) = key_cell f (look (value.Ref h a))
key_value look f _ = false

-- whether a value is a key, of at most this many levels
unfoldable pub is_key : (Value → Option Cell) → ℕ → Value → Bool
is_key look zero v = false
is_key look (suc n) v = key_value look (is_key look n) v

-- whether a test passes at a number of places, from the i-th on
abbrev pub all_pass : (ℕ → Bool) → ℕ → ℕ → Bool
all_pass f zero i = true
all_pass f (suc n) i = if f i then all_pass f n (i + 1) else false

-- two items, if both are there
abbrev pub same_key_pair : (Value → Value → Bool) → Option Value → Option Value → Bool
same_key_pair f (Some x) (Some y) = f x y
same_key_pair f _ _ = true

-- the items of two rows at a place
abbrev pub same_key_place : (Value → Value → Bool) → List Value → List Value → ℕ → Bool
same_key_place f xs ys i = same_key_pair f (slice_get xs i) (slice_get ys i)

-- rows of the same length with the same keys, in order
abbrev pub same_key_items : (Value → Value → Bool) → List Value → List Value → Bool
same_key_items f xs ys =
    if nat_eq (length xs) (length ys) then all_pass (same_key_place f xs ys) (length xs) 0 else false

-- structs with the same names, and the same keys as values
abbrev pub same_key_fields : (Value → Value → Bool) → Fields → Fields → Bool
same_key_fields f s t = same_names (names_of s) (names_of t) && same_key_items f (values_of s) (values_of t)

-- strings with the same bytes, tuples with the same keys in order, and structs
abbrev pub same_key_cell : (Value → Value → Bool) → Option Cell → Option Cell → Bool
same_key_cell f (Some (cell.Text t)) (Some (cell.Text u)) = pointwise nat_eq t u
same_key_cell f (Some (cell.Tuple xs)) (Some (cell.Tuple ys)) = same_key_items f xs ys
same_key_cell f (Some (cell.Struct s)) (Some (cell.Struct t)) = same_key_fields f s t
same_key_cell f _ _ = false

-- values of one type with the same content
abbrev pub same_key_value : (Value → Option Cell) → (Value → Value → Bool) → Value → Value → Bool
same_key_value look f value.NoneValue value.NoneValue = true
same_key_value look f (value.Bool b) (value.Bool c) = beq b c
same_key_value look f (value.Int m) (value.Int n) = int_eq m n
same_key_value look f (value.Ref h a) (value.Ref k b) = same_key_cell f (look (value.Ref h a)) (look (value.Ref k b))
same_key_value look f _ _ = false

-- whether two values are the same key, of at most this many levels
unfoldable pub same_key : (Value → Option Cell) → ℕ → Value → Value → Bool
same_key look zero x y = false
same_key look (suc n) x y = same_key_value look (same_key look n) x y

-- the place of the entry with this key
abbrev pub place_of : (Value → Option Cell) → Value → List (Value × Value) → Option ℕ
place_of look key es = position (λ e. same_key look key_levels key e.0) es

-- the value of the entry with this key
abbrev pub value_of : (Value → Option Cell) → Value → List (Value × Value) → Option Value
value_of look key es = option_and_then (λ i. option_map (λ e. e.1) (slice_get es i)) (place_of look key es)

-- whether a value is the string of these bytes
abbrev pub is_text_cell : List ℕ → Option Cell → Bool
is_text_cell t (Some (cell.Text u)) = pointwise nat_eq t u
is_text_cell t _ = false

abbrev pub is_text : (Value → Option Cell) → List ℕ → Value → Bool
is_text look t (value.Ref h a) = is_text_cell t (look (value.Ref h a))
is_text look t _ = false

-- the place of the entry whose key is the string of these bytes, and its value
abbrev pub text_place : (Value → Option Cell) → List ℕ → List (Value × Value) → Option ℕ
text_place look t es = position (λ e. is_text look t e.0) es

abbrev pub text_value : (Value → Option Cell) → List ℕ → List (Value × Value) → Option Value
text_value look t es = option_and_then (λ i. option_map (λ e. e.1) (slice_get es i)) (text_place look t es)

-- each item in order, up to the first refusal
abbrev pub check_each : (Value → Spend (Unit {0})) → List Value → Spend (Unit {0})
check_each f [] = answer tt
check_each f (x ∷ xs) = λ left. spend_then (f x left) (λ _. check_each f xs)

-- strings, and tuples and structs whose items pass
abbrev pub check_cell : (Value → Spend (Unit {0})) → Option Cell → Spend (Unit {0})
check_cell f (Some (cell.Text t)) = answer tt
check_cell f (Some (cell.Tuple xs)) = check_each f xs
check_cell f (Some (cell.Struct fs)) = check_each f (values_of fs)
check_cell f _ = refuse BadType

-- None, bools and ints pass
abbrev pub check_value : (Value → Option Cell) → (Value → Spend (Unit {0})) → Value → Spend (Unit {0})
check_value look f value.NoneValue = answer tt
check_value look f (value.Bool b) = answer tt
check_value look f (value.Int n) = answer tt
check_value look f (value.Ref h a) = check_cell f (look (value.Ref h a))
check_value look f _ = refuse BadType

-- the check that a value is a key, if this many levels may be opened: a value opens one, and then pays its visit
unfoldable pub check : (Value → Option Cell) → ℕ → Value → Spend (Unit {0})
check look zero v = λ n. Lacks Deep n
check look (suc levels) v = visited (check_value look (check look levels) v)

-- the value that a dictionary has for a key
abbrev pub find_in : (Value → Option Cell) → Option Cell → Value → Result (Option Value) StoreFault
find_in look (Some (cell.Dict es)) key = if is_key look key_levels key then Ok (value_of look key es) else Err BadType
find_in look _ key = Err BadType
