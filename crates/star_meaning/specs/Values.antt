-- Values in a run: their contents, new ones with their payments, the items of iterables, and visits of values.
use Rattle.std.specs.Prelude.{ℕ, zero, suc, ◌+◌, nat_lt, if◌then◌else◌, Bool, true, false, List, [], length, Option, Some, None, slice_get, ℤ, pos, ◌+ℤ◌, ◌*ℤ◌, codes, Result, Ok, Err}
use Rattle.std.specs.Option.{option_map}
use Rattle.std.specs.declared.cmp.Ordering.{Ordering}
use Rattle.star_store.specs.declared.values.Value.{Value}
use Rattle.star_store.specs.declared.values.Value.TheVariants as value
use Rattle.star_store.specs.declared.values.Cell.{Cell}
use Rattle.star_store.specs.declared.values.Cell.TheVariants as cell
use Rattle.star_store.specs.declared.names.BuiltIn.{BuiltIn}
use Rattle.star_store.specs.Names.{is_function}
use Rattle.star_store.specs.declared.arena.write.Change.{Change}
use Rattle.star_store.specs.declared.fault.StoreFault.{StoreFault}
use Rattle.star_store.specs.declared.fault.StoreFault.TheVariants as refused
use Rattle.star_store.specs.Store.{Store, opened, closed}
use Rattle.star_store.specs.Spend.{Spend, Lacks, answer, visited}
use Rattle.star_store.specs.declared.range.Range.{Range}
use Rattle.star_store.specs.Range.{range_length}
use Rattle.star_store.specs.Arithmetic.{checked}
use Rattle.star_store.specs.Truth.{truth}
use Rattle.star_store.specs.Equal.{same}
use Rattle.star_store.specs.Order.{order}
use Rattle.star_store.specs.Key as keys
use Rattle.star_store.specs.Text.{text}
use Rattle.star_store.specs.Json.{json}
use Rattle.star_store.specs.declared.layout.Layout.{Layout}
use Rattle.star_store.specs.Write.{may_write, write}
use Rattle.star_meaning.specs.declared.fault.FaultCode.TheVariants as code
use Rattle.star_meaning.specs.Run.{State, Action, Done, ◌>>=◌, give, pay, found, agreed, visiting, seeing, storing, build, collect}
use Rattle.star_meaning.specs.Program.{Setting, seen}

-- the content of a value
pub data Content : Type 0 where
  Nothing : Content
  Truth : Bool → Content
  Number : ℤ → Content
  BuiltInFunction : BuiltIn → Content
  Held : Cell → Content
  Nowhere : Content

abbrev pub held : Option Cell → Content
held (Some c) = Held c
held None = Nowhere

abbrev pub content : Setting → State → Value → Content
content w s value.NoneValue = Nothing
content w s (value.Bool b) = Truth b
content w s (value.Int n) = Number n
content w s (value.Builtin b) = BuiltInFunction b
content w s (value.Ref h a) = held (seen w s (value.Ref h a))

-- an action that depends on the content of a value
abbrev pub with_content : {A : Type 0} → Setting → Value → (Content → Action A) → Action A
with_content w v f = seeing (λ s. f (content w s v))

-- the type of a built-in function, and of a module
abbrev pub built_in_type : Bool → List ℕ
built_in_type true = codes "builtin_function_or_method"
built_in_type false = codes "module"

-- the name of a value's type
abbrev pub type_name : Content → List ℕ
type_name Nothing = codes "NoneType"
type_name (Truth b) = codes "bool"
type_name (Number n) = codes "int"
type_name (BuiltInFunction b) = built_in_type (is_function b)
type_name (Held (cell.Text t)) = codes "string"
type_name (Held (cell.Range r)) = codes "range"
type_name (Held (cell.Tuple xs)) = codes "tuple"
type_name (Held (cell.List xs)) = codes "list"
type_name (Held (cell.Dict es)) = codes "dict"
type_name (Held (cell.Func f)) = codes "function"
type_name (Held (cell.Frame f)) = []
type_name (Held (cell.Bound m v)) = codes "builtin_function_or_method"
type_name (Held (cell.Struct fs)) = codes "struct"
type_name (Held (cell.Set es)) = codes "set"
type_name Nowhere = []

-- the int, the bool or the bytes of the string that a value is
abbrev pub int_of : Content → Option ℤ
int_of (Number n) = Some n
int_of _ = None

abbrev pub bool_of : Content → Option Bool
bool_of (Truth b) = Some b
bool_of _ = None

abbrev pub text_of : Content → Option (List ℕ)
text_of (Held (cell.Text t)) = Some t
text_of _ = None

-- the int, the bool or the string that a value is, else `type`
abbrev pub want_int : Setting → ℕ → Value → Action ℤ
want_int w line v = with_content w v (λ c. found code.BadType line (int_of c))

abbrev pub want_bool : Setting → ℕ → Value → Action Bool
want_bool w line v = with_content w v (λ c. found code.BadType line (bool_of c))

abbrev pub want_text : Setting → ℕ → Value → Action (List ℕ)
want_text w line v = with_content w v (λ c. found code.BadType line (text_of c))

-- an exact int as a value, or `overflow`
abbrev pub new_int : ℕ → ℤ → Action Value
new_int line z = agreed line (checked z) >>= λ n. give (value.Int n)

-- new strings, tuples, lists, dictionaries and sets: 1 and their bytes, items, entries or elements
abbrev pub new_text : ℕ → List ℕ → Action Value
new_text line t = build line (1 + length t) (cell.Text t)

abbrev pub new_tuple : ℕ → List Value → Action Value
new_tuple line xs = build line (1 + length xs) (cell.Tuple xs)

abbrev pub new_list : ℕ → List Value → Action Value
new_list line xs = build line (1 + length xs) (cell.List xs)

abbrev pub new_dict : ℕ → List (Value × Value) → Action Value
new_dict line es = build line (1 + length es) (cell.Dict es)

abbrev pub new_set : ℕ → List (Value × Value) → Action Value
new_set line es = build line (1 + length es) (cell.Set es)

-- how many items an iterable has: a list, a tuple, a dictionary (its keys), a set (its elements) or a range
abbrev pub count_in : Content → Option ℕ
count_in (Held (cell.Tuple xs)) = Some (length xs)
count_in (Held (cell.List xs)) = Some (length xs)
count_in (Held (cell.Dict es)) = Some (length es)
count_in (Held (cell.Set es)) = Some (length es)
count_in (Held (cell.Range r)) = Some (range_length r)
count_in _ = None

-- an int of a range
abbrev pub range_item : Range → ℕ → Option Value
range_item r i = if nat_lt i (range_length r) then Some (value.Int (r.start +ℤ pos i *ℤ r.step)) else None

-- its item at a place
abbrev pub item_in : Content → ℕ → Option Value
item_in (Held (cell.Tuple xs)) i = slice_get xs i
item_in (Held (cell.List xs)) i = slice_get xs i
item_in (Held (cell.Dict es)) i = option_map (λ e. e.0) (slice_get es i)
item_in (Held (cell.Set es)) i = option_map (λ e. e.0) (slice_get es i)
item_in (Held (cell.Range r)) i = range_item r i
item_in _ i = None

-- the number of items of an iterable: else `type`
unfoldable pub count_of : Setting → ℕ → Value → Action ℕ
count_of w line v = with_content w v (λ c. found code.BadType line (count_in c))

-- takes the item at a place: 1 is paid before it
unfoldable pub take_item : Setting → ℕ → Value → ℕ → Action Value
take_item w line v i = pay line 1 >>= λ _. with_content w v (λ c. found code.BadType line (item_in c i))

-- takes this many items, from the first on
abbrev pub take_items : Setting → ℕ → Value → ℕ → Action (List Value)
take_items w line v n = collect (take_item w line v) n 0

-- takes all items of an iterable
abbrev pub take_all : Setting → ℕ → Value → Action (List Value)
take_all w line v = count_of w line v >>= take_items w line v

-- opens an iteration, and gives the number of items: else `type`
unfoldable pub iterate : Setting → ℕ → Value → Action ℕ
iterate w line v = count_of w line v >>= λ n. storing (opened v) >>= λ _. give n

-- closes it
unfoldable pub leave : Value → Action (Unit {0})
leave v = storing (closed v)

-- whether a value counts as true
unfoldable pub is_true : Setting → Value → Action Bool
is_true w v = seeing (λ s. give (truth (seen w s) v))

-- equality, order and key checks, which may open this many levels
unfoldable pub equal : Setting → ℕ → ℕ → Value → Value → Action Bool
equal w levels line x y = visiting line (λ s. same (seen w s) levels x y)

unfoldable pub compare : Setting → ℕ → ℕ → Value → Value → Action Ordering
compare w levels line x y = visiting line (λ s. order (seen w s) levels x y)

unfoldable pub check_key : Setting → ℕ → ℕ → Value → Action (Unit {0})
check_key w levels line k = visiting line (λ s. keys.check (seen w s) levels k)

-- the text of a value
unfoldable pub repr : Setting → ℕ → ℕ → Value → Action (List ℕ)
repr w levels line v = visiting line (λ s. text w.language.recorded (seen w s) levels [] v [])

-- the JSON of a value, in a layout
unfoldable pub encoded : Setting → ℕ → ℕ → Layout → Value → Action (List ℕ)
encoded w levels line l v = visiting line (λ s. json (seen w s) l levels 0 v [])

-- a string as it is, with one visit
abbrev pub bare : ℕ → List ℕ → Spend (List ℕ)
bare zero t = λ n. Lacks refused.Deep n
bare (suc levels) t = visited (answer t)

-- the `str` of a value: a string itself, else the text
abbrev pub str_of : Setting → ℕ → ℕ → Value → Option (List ℕ) → Action (List ℕ)
str_of w levels line v (Some t) = visiting line (λ s. bare levels t)
str_of w levels line v None = repr w levels line v

unfoldable pub str : Setting → ℕ → ℕ → Value → Action (List ℕ)
str w levels line v = with_content w v (λ c. str_of w levels line v (text_of c))

-- the place of the entry with a key
abbrev pub place_in : Setting → State → Value → List (Value × Value) → Option ℕ
place_in w s k es = keys.place_of (seen w s) k es

-- the value of the entry with a key
abbrev pub value_in : Setting → State → Value → List (Value × Value) → Option Value
value_in w s k es = keys.value_of (seen w s) k es

-- the value of the entry whose key is the string of these bytes
abbrev pub text_value : Setting → State → List ℕ → List (Value × Value) → Option Value
text_value w s t es = keys.text_value (seen w s) t es

-- the write guard: `type` if it is not a list, dictionary or set, then `frozen`, then `iterating`
unfoldable pub guard : Setting → ℕ → Value → Action (Unit {0})
guard w line v = seeing (λ s. agreed line (may_write s.store w.shelf v))

abbrev pub written : ℕ → Result (Option Value × Store) StoreFault → Action (Option Value)
written line (Ok r) = λ s. Done r.0 (record s { store = r.1 })
written line (Err f) = λ s. agreed line (Err f) s

-- a change of a list, a dictionary or a set, with the value replaced or taken out
unfoldable pub change : Setting → ℕ → Value → Change → Action (Option Value)
change w line v c = seeing (λ s. written line (write s.store w.shelf v c))
