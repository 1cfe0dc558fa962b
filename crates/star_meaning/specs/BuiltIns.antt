-- The built-in functions: first the number and the names of the arguments, then their types, then the work, which pays
-- as it goes.
use Rattle.std.specs.Prelude.{ℕ, ◌+◌, ◌-◌, ◌*◌, ◌^◌, nat_eq, nat_lt, min, Bool, true, false, not, ◌&&◌, List, [], ◌∷◌, ◌++◌, length, map, reverse, Option, Some, None, ℤ, pos, ◌+ℤ◌, neg_ℤ, unsigned_abs, if◌then◌else◌, codes}
use Rattle.std.specs.List.{list_all}
use Rattle.std.specs.Ordering.{int_eq, is_lt, is_gt}
use Rattle.std.specs.declared.cmp.Ordering.{Ordering}
use Rattle.star_store.specs.declared.values.Value.{Value}
use Rattle.star_store.specs.declared.values.Value.TheVariants as value
use Rattle.star_store.specs.declared.values.Cell.TheVariants as cell
use Rattle.star_store.specs.declared.range.Range.{Range}
use Rattle.star_store.specs.declared.names.BuiltIn.{BuiltIn}
use Rattle.star_store.specs.declared.names.BuiltIn.TheVariants as built_in
use Rattle.star_store.specs.Range.{range_length}
use Rattle.star_dialect.specs.declared.Dialect.{Dialect}
use Rattle.star_dialect.specs.declared.Dialect.TheVariants as dialect
use Rattle.star_meaning.specs.declared.fault.FaultCode.TheVariants as code
use Rattle.star_meaning.specs.declared.said.Said.TheVariants.{Line}
use Rattle.star_meaning.specs.Run.{Action, ◌>>=◌, give, fail, pay, check, found, each, collect, until, seeing, build, add_said}
use Rattle.star_meaning.specs.Program.{Setting}
use Rattle.star_meaning.specs.Values.{Content, Truth, Number, Held, content, with_content, type_name, want_int, want_text, new_int, new_text, new_tuple, new_list, count_in, count_of, take_item, take_items, take_all, is_true, compare, repr, str}
use Rattle.star_meaning.specs.declared.given.Arguments.{Arguments}
use Rattle.star_meaning.specs.Arguments.{positional, with_name, only_one, none_or_one, one_or_two}
use Rattle.star_meaning.specs.Attributes.{call_dir, call_getattr, call_hasattr}
use Rattle.star_meaning.specs.Characters.{call_chr, call_hash, call_ord}
use Rattle.star_strings.specs.Ints.{base_of, int_in}
use Rattle.star_meaning.specs.Json.{call_decode, call_encode, call_encode_indent}
use Rattle.star_meaning.specs.Pairs.{pairs_count, pairs_of, dict_of}
use Rattle.star_meaning.specs.Orders.{by_itself, can_sort, is_before, sort_by, want_reverse}
use Rattle.star_store.specs.Sorting.{in_order}
use Rattle.star_meaning.specs.Recorded.{call_recorded}
use Rattle.star_meaning.specs.SetMethods.{call_set}
use Rattle.star_meaning.specs.Spelling.{spelled}
use Rattle.star_meaning.specs.Structs.{call_struct}
use Rattle.star_meaning.specs.Texts.{joined}

-- abs(x)
abbrev pub absolute : ℕ → ℤ → Action Value
absolute line z = new_int line (pos (unsigned_abs z))

abbrev pub call_abs : Setting → ℕ → Arguments → Action Value
call_abs w line g = positional line g >>= only_one line >>= want_int w line >>= absolute line

-- all(it), any(it): items are taken up to the first whose truth is the one looked for
abbrev pub is_decided : Setting → ℕ → Bool → Value → ℕ → Action Bool
is_decided w line wanted v i = take_item w line v i >>= is_true w >>= λ b. give (if b then wanted else not wanted)

abbrev pub some_item : Setting → ℕ → Bool → Arguments → Action Bool
some_item w line wanted g = do
  v ← positional line g >>= only_one line
  n ← count_of w line v
  until (is_decided w line wanted v) n 0

abbrev pub call_all : Setting → ℕ → Arguments → Action Value
call_all w line g = some_item w line false g >>= λ b. give (value.Bool (not b))

abbrev pub call_any : Setting → ℕ → Arguments → Action Value
call_any w line g = some_item w line true g >>= λ b. give (value.Bool b)

-- bool([x])
abbrev pub truth_of : Setting → Option Value → Action Value
truth_of w None = give (value.Bool false)
truth_of w (Some v) = is_true w v >>= λ b. give (value.Bool b)

abbrev pub call_bool : Setting → ℕ → Arguments → Action Value
call_bool w line g = positional line g >>= none_or_one line >>= truth_of w

-- dict([x], **kw)
abbrev pub call_dict : Setting → ℕ → ℕ → Arguments → Action Value
call_dict w levels line g = do
  x ← none_or_one line g.positional
  n ← pairs_count w line x
  ps ← pairs_of w line x n
  dict_of w levels line ps g.named

-- enumerate(it, [start]): each pair is a new tuple
abbrev pub want_start : Setting → ℕ → Option Value → Action ℤ
want_start w line None = give (pos 0)
want_start w line (Some v) = want_int w line v

abbrev pub numbered : ℕ → ℤ → List Value → Action (List Value)
numbered line z [] = give []
numbered line z (x ∷ xs) = do
  n ← new_int line z
  pair ← new_tuple line (n ∷ x ∷ [])
  rest ← numbered line (z +ℤ pos 1) xs
  give (pair ∷ rest)

abbrev pub call_enumerate : Setting → ℕ → Arguments → Action Value
call_enumerate w line g = do
  a ← positional line g >>= one_or_two line
  n ← count_of w line a.0
  start ← want_start w line a.1
  xs ← take_items w line a.0 n
  numbered line start xs >>= new_list line

-- print(*x, sep=" ") and fail(*x, sep=" "): the texts of all arguments, then the payment for the line
abbrev pub want_separator : Setting → ℕ → Option Value → Action (List ℕ)
want_separator w line None = give (codes " ")
want_separator w line (Some v) = want_text w line v

abbrev pub print_line : Setting → ℕ → ℕ → Arguments → Action (Unit {0})
print_line w levels line g = do
  a ← with_name line (codes "sep") g
  by ← want_separator w line a.1
  ts ← each (str w levels line) a.0
  _ ← pay line (1 + length (joined by ts))
  add_said (Line (joined by ts))

abbrev pub call_print : Setting → ℕ → ℕ → Arguments → Action Value
call_print w levels line g = print_line w levels line g >>= λ _. give value.NoneValue

abbrev pub call_fail : Setting → ℕ → ℕ → Arguments → Action Value
call_fail w levels line g = print_line w levels line g >>= λ _. fail code.Fail line

-- int(x): an int, a bool as 1 or 0, or a string that spells an int, else `value`
abbrev pub to_int : ℕ → Content → Action Value
to_int line (Number z) = give (value.Int z)
to_int line (Truth b) = give (value.Int (if b then pos 1 else pos 0))
to_int line (Held (cell.Text t)) = found code.BadValue line (spelled t) >>= new_int line
to_int line _ = fail code.BadType line

abbrev pub int_alone : Setting → ℕ → Arguments → Action Value
int_alone w line g = positional line g >>= only_one line >>= λ v. with_content w v (to_int line)

-- int(x, [base]), of the extended language: the base by place or by name; with one x is a string
abbrev pub one_base : ℕ → Option Value → Option Value → Action (Option Value)
one_base line None named = give named
one_base line (Some b) None = give (Some b)
one_base line (Some b) (Some c) = fail code.Args line

abbrev pub int_by : Setting → ℕ → Value → Option Value → Action Value
int_by w line v None = with_content w v (to_int line)
int_by w line v (Some b) = do
  t ← want_text w line v
  n ← want_int w line b
  base ← found code.BadValue line (base_of n)
  found code.BadValue line (int_in base t) >>= new_int line

abbrev pub int_with_base : Setting → ℕ → Arguments → Action Value
int_with_base w line g = do
  a ← with_name line (codes "base") g
  xs ← one_or_two line a.0
  base ← one_base line xs.1 a.1
  int_by w line xs.0 base

abbrev pub int_of_dialect : Setting → ℕ → Arguments → Dialect → Action Value
int_of_dialect w line g dialect.Core = int_alone w line g
int_of_dialect w line g dialect.Extended = int_with_base w line g

abbrev pub call_int : Setting → ℕ → Arguments → Action Value
call_int w line g = int_of_dialect w line g w.language.dialect

-- len(x)
abbrev pub length_in : Content → Option ℕ
length_in (Held (cell.Text t)) = Some (length t)
length_in c = count_in c

abbrev pub call_len : Setting → ℕ → Arguments → Action Value
call_len w line g =
    positional line g >>= only_one line >>= λ v. with_content w v (λ c. found code.BadType line (length_in c))
    >>= λ n. new_int line (pos n)

-- list([it]), tuple([it]), reversed(it)
abbrev pub taken_from : Setting → ℕ → Option Value → Action (List Value)
taken_from w line None = give []
taken_from w line (Some v) = take_all w line v

abbrev pub call_list : Setting → ℕ → Arguments → Action Value
call_list w line g = positional line g >>= none_or_one line >>= taken_from w line >>= new_list line

abbrev pub call_tuple : Setting → ℕ → Arguments → Action Value
call_tuple w line g = positional line g >>= none_or_one line >>= taken_from w line >>= new_tuple line

abbrev pub call_reversed : Setting → ℕ → Arguments → Action Value
call_reversed w line g = positional line g >>= only_one line >>= take_all w line >>= λ xs. new_list line (reverse xs)

-- max and min without `key`: each item is compared with the best so far, and the first of equals is kept
abbrev pub best_of : Setting → ℕ → ℕ → (Ordering → Bool) → Value → List Value → Action Value
best_of w levels line better best [] = give best
best_of w levels line better best (x ∷ xs) =
    compare w levels line x best >>= λ o. best_of w levels line better (if better o then x else best) xs

abbrev pub best_in : Setting → ℕ → ℕ → (Ordering → Bool) → List Value → Action Value
best_in w levels line better [] = fail code.BadValue line
best_in w levels line better (x ∷ xs) = best_of w levels line better x xs

-- of one argument's items, or of several arguments
abbrev pub candidates : Setting → ℕ → List Value → Action (List Value)
candidates w line [] = fail code.Args line
candidates w line (v ∷ []) = take_all w line v
candidates w line (x ∷ y ∷ xs) = give (x ∷ y ∷ xs)

abbrev pub call_best : Setting → ℕ → ℕ → (Ordering → Bool) → Arguments → Action Value
call_best w levels line better g = positional line g >>= candidates w line >>= best_in w levels line better

-- range([start], stop, [step]): a step of 0 is `value`, more than 2^63 - 1 ints `overflow`
abbrev pub new_range : ℕ → Range → Action Value
new_range line r = do
  _ ← check code.BadValue line (not (int_eq r.step (pos 0)))
  _ ← check code.Overflow line (nat_lt (range_length r) (2 ^ 63))
  build line 1 (cell.Range r)

abbrev pub range_of : ℕ → List ℤ → Action Value
range_of line (b ∷ []) = new_range line (record { start = pos 0; stop = b; step = pos 1 })
range_of line (a ∷ b ∷ []) = new_range line (record { start = a; stop = b; step = pos 1 })
range_of line (a ∷ b ∷ c ∷ []) = new_range line (record { start = a; stop = b; step = c })
range_of line _ = fail code.Args line

abbrev pub is_range_count : ℕ → Bool
is_range_count n = not (nat_eq n 0) && nat_lt n 4

abbrev pub call_range : Setting → ℕ → Arguments → Action Value
call_range w line g =
    positional line g >>= λ xs. check code.Args line (is_range_count (length xs)) >>= λ _. each (want_int w line) xs
    >>= range_of line

-- repr(x), str(x), type(x): a new string
abbrev pub call_repr : Setting → ℕ → ℕ → Arguments → Action Value
call_repr w levels line g = positional line g >>= only_one line >>= repr w levels line >>= new_text line

abbrev pub call_str : Setting → ℕ → ℕ → Arguments → Action Value
call_str w levels line g = positional line g >>= only_one line >>= str w levels line >>= new_text line

abbrev pub call_type : Setting → ℕ → Arguments → Action Value
call_type w line g = positional line g >>= only_one line >>= λ v. with_content w v (λ c. new_text line (type_name c))

-- sorted(it, reverse=False): in the core all ints or all strings, else `type`
abbrev pub turned : Bool → List Value → List Value
turned true xs = reverse xs
turned false xs = xs

abbrev pub sort : Setting → ℕ → Bool → List Value → Action Value
sort w line backwards xs =
    seeing (λ s. check code.BadType line (can_sort (map (content w s) xs))
    >>= λ _. new_list line (turned backwards (in_order (λ x y. is_before (content w s x) (content w s y)) xs)))

-- .. in the extended language whatever has an order
abbrev pub sort_items : Setting → ℕ → ℕ → Bool → List Value → Dialect → Action Value
sort_items w levels line backwards xs dialect.Core = sort w line backwards xs
sort_items w levels line backwards xs dialect.Extended = sort_by w levels line backwards (map by_itself xs)

abbrev pub call_sorted : Setting → ℕ → ℕ → Arguments → Action Value
call_sorted w levels line g = do
  a ← with_name line (codes "reverse") g
  it ← only_one line a.0
  n ← count_of w line it
  backwards ← want_reverse w line a.1
  xs ← take_items w line it n
  sort_items w levels line backwards xs w.language.dialect

-- zip(*it): as many rows as the shortest has items; each row takes one item of each
abbrev pub least : List ℕ → ℕ
least [] = 0
least (n ∷ []) = n
least (n ∷ m ∷ ns) = min n (least (m ∷ ns))

abbrev pub row_at : Setting → ℕ → List Value → ℕ → Action Value
row_at w line vs i = each (λ v. take_item w line v i) vs >>= new_tuple line

abbrev pub call_zip : Setting → ℕ → Arguments → Action Value
call_zip w line g = do
  vs ← positional line g
  ns ← each (count_of w line) vs
  rows ← collect (row_at w line vs) (least ns) 0
  new_list line rows

-- a call of a built-in function, whose visits may open this many levels; a module is no function
unfoldable pub call_built_in : Setting → ℕ → ℕ → BuiltIn → Arguments → Action Value
call_built_in w levels line built_in.Abs g = call_abs w line g
call_built_in w levels line built_in.All g = call_all w line g
call_built_in w levels line built_in.Any g = call_any w line g
call_built_in w levels line built_in.Bool g = call_bool w line g
call_built_in w levels line built_in.Dict g = call_dict w levels line g
call_built_in w levels line built_in.Enumerate g = call_enumerate w line g
call_built_in w levels line built_in.Fail g = call_fail w levels line g
call_built_in w levels line built_in.Int g = call_int w line g
call_built_in w levels line built_in.Len g = call_len w line g
call_built_in w levels line built_in.List g = call_list w line g
call_built_in w levels line built_in.Max g = call_best w levels line is_gt g
call_built_in w levels line built_in.Min g = call_best w levels line is_lt g
call_built_in w levels line built_in.Print g = call_print w levels line g
call_built_in w levels line built_in.Range g = call_range w line g
call_built_in w levels line built_in.Repr g = call_repr w levels line g
call_built_in w levels line built_in.Reversed g = call_reversed w line g
call_built_in w levels line built_in.Sorted g = call_sorted w levels line g
call_built_in w levels line built_in.Str g = call_str w levels line g
call_built_in w levels line built_in.Tuple g = call_tuple w line g
call_built_in w levels line built_in.Type g = call_type w line g
call_built_in w levels line built_in.Zip g = call_zip w line g
call_built_in w levels line built_in.Chr g = call_chr w line g
call_built_in w levels line built_in.Dir g = call_dir w line g
call_built_in w levels line built_in.Getattr g = call_getattr w line g
call_built_in w levels line built_in.Hasattr g = call_hasattr w line g
call_built_in w levels line built_in.Hash g = call_hash w line g
call_built_in w levels line built_in.Json g = fail code.BadType line
call_built_in w levels line built_in.Ord g = call_ord w line g
call_built_in w levels line built_in.Set g = call_set w levels line g
call_built_in w levels line built_in.Struct g = call_struct line g
call_built_in w levels line built_in.JsonDecode g = call_decode w levels line g
call_built_in w levels line built_in.JsonEncode g = call_encode w levels line g
call_built_in w levels line built_in.JsonEncodeIndent g = call_encode_indent w levels line g
call_built_in w levels line (built_in.Recorded i) g = call_recorded w levels line i g
