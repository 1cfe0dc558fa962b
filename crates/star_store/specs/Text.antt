-- The texts of values, over stores that do not change, by the levels and the steps that are left.
use denote.Ref.{Bor}
use Rattle.std.specs.Prelude.{◌≡◌, ℕ, zero, suc, ◌+◌, ◌/◌, ◌%◌, nat_lt, nat_eq, Bool, false, ◌&&◌, ◌||◌, List, [], ◌∷◌, ◌++◌, length, slice_get, Option, Some, None, Result, Ok, Err, if◌then◌else◌, pos, codes}
use Rattle.std.specs.List.{list_any, flat_map}
use Rattle.std.specs.Option.{option_copied}
use Rattle.std.specs.Char.{digit_char, encode_utf8}
use Rattle.std.specs.Fmt.{signed_decimal}
use Rattle.std.specs.Str.{chars}
use Rattle.std.specs.Ordering.{int_eq}
use Rattle.star_store.specs.declared.values.Value.{Value}
use Rattle.star_store.specs.declared.values.Value.TheVariants as value
use Rattle.star_store.specs.declared.values.Cell.{Cell}
use Rattle.star_store.specs.declared.values.Cell.TheVariants as cell
use Rattle.star_store.specs.declared.range.Range.{Range}
use Rattle.star_store.specs.declared.names.BuiltIn.{BuiltIn}
use Rattle.star_store.specs.declared.names.Method.{Method}
use Rattle.star_store.specs.declared.fault.StoreFault.{StoreFault}
use Rattle.star_store.specs.declared.fault.StoreFault.TheVariants.{Deep, Memory}
use Rattle.star_store.specs.Names.{is_function, method_name, name_among, receiver_type}
use Rattle.star_store.specs.Spend.{Spend, Spent, Enough, Lacks, answer, spend_then, visited}

-- a character as itself, or, below 32 and at 127, by its two lower-case hexadecimal digits
abbrev pub plain_char : ℕ → List ℕ
plain_char c =
    if nat_lt c 32 || nat_eq c 127 then codes "\\x" ++ digit_char (c / 16) ∷ digit_char (c % 16) ∷ [] else encode_utf8 c

-- a character of a string, as its text shows it
unfoldable pub shown_char : ℕ → List ℕ
shown_char c =
    if nat_eq c 34 then codes "\\\""
    else (if nat_eq c 92 then codes "\\\\"
    else (if nat_eq c 10 then codes "\\n"
    else (if nat_eq c 13 then codes "\\r"
    else (if nat_eq c 9 then codes "\\t"
    else plain_char c))))

-- the characters of a string, as its text shows them
abbrev pub shown : List ℕ → List ℕ
shown t = flat_map shown_char (chars t)

-- a string in quotes
abbrev pub quoted : List ℕ → List ℕ
quoted t = codes "\"" ++ shown t ++ codes "\""

-- pieces put after a text, in order
abbrev pub after : List ℕ → List (List ℕ) → List ℕ
after out [] = out
after out (t ∷ ts) = after (out ++ t) ts

-- stop alone, or start and stop, or start, stop and step
abbrev pub bounds_parts : Range → List (List ℕ)
bounds_parts r =
    if int_eq r.step (pos 1) then
    (if int_eq r.start (pos 0) then signed_decimal r.stop ∷ []
    else signed_decimal r.start ∷ codes ", " ∷ signed_decimal r.stop ∷ [])
    else signed_decimal r.start ∷ codes ", " ∷ signed_decimal r.stop ∷ codes ", " ∷ signed_decimal r.step ∷ []

-- start, stop and step
abbrev pub all_bounds : Range → List ℕ
all_bounds r = signed_decimal r.start ++ codes ", " ++ signed_decimal r.stop ++ codes ", " ++ signed_decimal r.step

-- range(stop), range(start, stop) or range(start, stop, step)
abbrev pub range_after : List ℕ → Range → List ℕ
range_after out r = after (out ++ codes "range(") (bounds_parts r) ++ codes ")"

abbrev pub function_parts : List ℕ → List (List ℕ)
function_parts name = codes "<function " ∷ name ∷ codes ">" ∷ []

abbrev pub built_in_parts : List ℕ → List (List ℕ)
built_in_parts name = codes "<built-in function " ∷ name ∷ codes ">" ∷ []

abbrev pub module_parts : List ℕ → List (List ℕ)
module_parts name = codes "<module \"" ∷ name ∷ codes "\">" ∷ []

abbrev pub parts_of_built_in : List (List ℕ) → BuiltIn → List (List ℕ)
parts_of_built_in names b =
    if is_function b then built_in_parts (name_among names b) else module_parts (name_among names b)

abbrev pub method_parts : Method → List (List ℕ)
method_parts m = codes "<built-in method " ∷ method_name m ∷ codes " of " ∷ receiver_type m ∷ codes " value>" ∷ []

abbrev pub bool_text : Bool → List ℕ
bool_text b = if b then codes "True" else codes "False"

-- a text put after another one
abbrev pub Say : Type 0
Say = List ℕ → Spend (List ℕ)

-- these bytes, for nothing
abbrev pub say : List ℕ → Say
say t = λ out. answer (out ++ t)

-- these pieces, for nothing
abbrev pub say_parts : List (List ℕ) → Say
say_parts ts = λ out. answer (after out ts)

-- one text and then another
abbrev pub then_say : Say → Say → Say
then_say a b = λ out left. spend_then (a out left) b

-- the texts of a number of places, from the i-th on
abbrev pub all_said : (ℕ → Say) → ℕ → ℕ → Say
all_said f zero i = λ out. answer out
all_said f (suc n) i = then_say (f i) (all_said f n (i + 1))

-- a comma and a space come before each item but the first
abbrev pub separator : ℕ → List ℕ
separator i = if nat_eq i 0 then [] else codes ", "

abbrev pub say_item : (Value → Say) → Option Value → Say
say_item f (Some x) = f x
say_item f None = say []

-- the item at a place
abbrev pub say_place : (Value → Say) → List Value → ℕ → Say
say_place f xs i = then_say (say (separator i)) (say_item f (slice_get xs i))

-- items, with commas
abbrev pub say_items : (Value → Say) → List Value → Say
say_items f xs = all_said (say_place f xs) (length xs) 0

-- a key, a colon and a value
abbrev pub say_pair : (Value → Say) → Option (Value × Value) → Say
say_pair f (Some e) = then_say (f e.0) (then_say (say (codes ": ")) (f e.1))
say_pair f None = say []

-- the entry at a place
abbrev pub say_entry : (Value → Say) → List (Value × Value) → ℕ → Say
say_entry f es i = then_say (say (separator i)) (say_pair f (slice_get es i))

-- entries, with commas
abbrev pub say_entries : (Value → Say) → List (Value × Value) → Say
say_entries f es = all_said (say_entry f es) (length es) 0

-- an element of a set, which is an entry without a value
abbrev pub say_element : (Value → Say) → Option (Value × Value) → Say
say_element f (Some e) = f e.0
say_element f None = say []

-- the element at a place
abbrev pub say_nth : (Value → Say) → List (Value × Value) → ℕ → Say
say_nth f es i = then_say (say (separator i)) (say_element f (slice_get es i))

-- elements, with commas
abbrev pub say_elements : (Value → Say) → List (Value × Value) → Say
say_elements f es = all_said (say_nth f es) (length es) 0

-- a tuple of one item has a comma after it
abbrev pub tuple_end : List Value → List ℕ
tuple_end xs = if nat_eq (length xs) 1 then codes ",)" else codes ")"

-- whether a value's cell is on the path
abbrev pub same_address : Value → Value → Bool
same_address (value.Ref h a) (value.Ref k b) = nat_eq h k && nat_eq a b
same_address _ _ = false

abbrev pub on_path : Value → List Value → Bool
on_path v path = list_any (same_address v) path

-- a name, a sign and a value
abbrev pub say_named : (Value → Say) → Option (List ℕ × Value) → Say
say_named f (Some e) = then_say (say e.0) (then_say (say (codes " = ")) (f e.1))
say_named f None = say []

-- the field at a place
abbrev pub say_field : (Value → Say) → List (List ℕ × Value) → ℕ → Say
say_field f fs i = then_say (say (separator i)) (say_named f (slice_get fs i))

-- fields, with commas
abbrev pub say_fields : (Value → Say) → List (List ℕ × Value) → Say
say_fields f fs = all_said (say_field f fs) (length fs) 0

abbrev pub say_struct : (Value → Say) → List (List ℕ × Value) → Say
say_struct f fs = then_say (say (codes "struct(")) (then_say (say_fields f fs) (say (codes ")")))

abbrev pub say_tuple : (Value → Say) → List Value → Say
say_tuple f xs = then_say (say (codes "(")) (then_say (say_items f xs) (say (tuple_end xs)))

abbrev pub say_new_list : (Value → Say) → List Value → Say
say_new_list f xs = then_say (say (codes "[")) (then_say (say_items f xs) (say (codes "]")))

-- a set, in which no list, dictionary or set can be
abbrev pub say_set : (Value → Say) → List (Value × Value) → Say
say_set f es = then_say (say (codes "set([")) (then_say (say_elements f es) (say (codes "])")))

abbrev pub say_new_dict : (Value → Say) → List (Value × Value) → Say
say_new_dict f es = then_say (say (codes "{")) (then_say (say_entries f es) (say (codes "}")))

-- a list on its own path is not written again
abbrev pub say_list : (List Value → Value → Say) → List Value → Value → List Value → Say
say_list f path v xs =
    λ out left. if on_path v path then say (codes "[...]") out left else say_new_list (f (path ++ v ∷ [])) xs out left

-- nor is a dictionary
abbrev pub say_dict : (List Value → Value → Say) → List Value → Value → List (Value × Value) → Say
say_dict f path v es =
    λ out left. if on_path v path then say (codes "{...}") out left else say_new_dict (f (path ++ v ∷ [])) es out left

-- the cell that a value leads to; a frame is not a value of the language and has no text
abbrev pub say_cell : (List Value → Value → Say) → List Value → Value → Option Cell → Say
say_cell f path v (Some (cell.Text t)) = say (quoted t)
say_cell f path v (Some (cell.Range r)) = λ out. answer (range_after out r)
say_cell f path v (Some (cell.Tuple xs)) = say_tuple (f path) xs
say_cell f path v (Some (cell.List xs)) = say_list f path v xs
say_cell f path v (Some (cell.Dict es)) = say_dict f path v es
say_cell f path v (Some (cell.Func g)) = say_parts (function_parts g.name)
say_cell f path v (Some (cell.Frame g)) = say []
say_cell f path v (Some (cell.Bound m x)) = say_parts (method_parts m)
say_cell f path v (Some (cell.Struct fs)) = say_struct (f path) fs
say_cell f path v (Some (cell.Set es)) = say_set (f path) es
say_cell f path v None = say []

abbrev pub say_value : List (List ℕ) → (Value → Option Cell) → (List Value → Value → Say) → List Value → Value → Say
say_value names look f path value.NoneValue = say (codes "None")
say_value names look f path (value.Bool b) = say (bool_text b)
say_value names look f path (value.Int n) = say (signed_decimal n)
say_value names look f path (value.Builtin b) = say_parts (parts_of_built_in names b)
say_value names look f path (value.Ref h a) = say_cell f path (value.Ref h a) (look (value.Ref h a))

-- the text of a value below a path, given the recorded names, if this many levels may be opened: a value opens one, and
-- then pays its visit
unfoldable pub text : List (List ℕ) → (Value → Option Cell) → ℕ → List Value → Value → Say
text names look zero path v = λ out n. Lacks Deep n
text names look (suc levels) path v = λ out. visited (say_value names look (text names look levels) path v out)

-- a value, and a cell that it leads to, if this many levels may be opened in them
abbrev pub say_within : List (List ℕ) → (Value → Option Cell) → ℕ → List Value → Value → Say
say_within names look levels path v = say_value names look (text names look levels) path v

abbrev pub say_read : List (List ℕ) → (Value → Option Cell) → ℕ → List Value → Value → Option (Bor Cell) → Say
say_read names look levels path v c = say_cell (text names look levels) path v (option_copied c)

-- the text of what is inside of a value
abbrev pub say_inside : List (List ℕ) → (Value → Option Cell) → ℕ → List Value → Value → Value → Say
say_inside names look levels path v = text names look levels (path ++ v ∷ [])

-- A function's answer, the text that it left and the steps that it left are those of the definition, unless memory ran
-- out.
abbrev pub Says : Spent (List ℕ) → Result (Unit {0}) StoreFault → List ℕ → ℕ → Type 0
Says o (Ok x) out left = o ≡ Enough out left
Says o (Err Memory) out left = Unit {0}
Says o (Err f) out left = o ≡ Lacks f left

-- The same for a function that answers the text.
abbrev pub Tells : Spent (List ℕ) → Result (List ℕ) StoreFault → ℕ → Type 0
Tells o (Ok t) left = o ≡ Enough t left
Tells o (Err Memory) left = Unit {0}
Tells o (Err f) left = o ≡ Lacks f left
