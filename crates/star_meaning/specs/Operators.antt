-- The operators.
use Rattle.std.specs.Prelude.{ℕ, zero, suc, ◌+◌, ◌-◌, ◌*◌, ◌^◌, nat_eq, nat_lt, Bool, true, false, not, ◌&&◌, List, [], ◌∷◌, ◌++◌, length, drop, Option, Some, None, is_some, ℤ, pos, negsuc, ◌+ℤ◌, ◌-ℤ◌, ◌*ℤ◌, neg_ℤ, if◌then◌else◌}
use Rattle.std.specs.List.{starts_with}
use Rattle.std.specs.Int.{w64, int_bit_and, int_bit_or, int_bit_xor, int_bit_not}
use Rattle.std.specs.Ordering.{int_eq, is_lt, is_gt}
use Rattle.std.specs.declared.cmp.Ordering.{Ordering}
use Rattle.star_store.specs.declared.values.Value.{Value}
use Rattle.star_store.specs.declared.values.Value.TheVariants as value
use Rattle.star_store.specs.declared.values.Cell.TheVariants as cell
use Rattle.star_store.specs.declared.range.Range.{Range}
use Rattle.star_store.specs.Range.{range_length}
use Rattle.star_store.specs.Arithmetic.{floored, floored_by, left_over}
use Rattle.star_tree.specs.declared.tree.UnaryOperator.{UnaryOperator}
use Rattle.star_tree.specs.declared.tree.UnaryOperator.TheVariants as unary
use Rattle.star_tree.specs.declared.tree.BinaryOperator.{BinaryOperator}
use Rattle.star_tree.specs.declared.tree.BinaryOperator.TheVariants as binary
use Rattle.star_tree.specs.declared.tree.Comparator.{Comparator}
use Rattle.star_tree.specs.declared.tree.Comparator.TheVariants as comparator
use Rattle.star_meaning.specs.declared.fault.FaultCode.TheVariants as code
use Rattle.star_meaning.specs.declared.merge.Merge.TheVariants as merge
use Rattle.star_meaning.specs.Run.{Action, ◌>>=◌, give, fail, pay, found, seeing, make}
use Rattle.star_meaning.specs.Program.{Setting}
use Rattle.star_meaning.specs.Values.{Content, Number, Held, with_content, int_of, new_int, new_text, new_tuple, new_list, new_dict, want_text, is_true, equal, compare, check_key, place_in}
use Rattle.star_meaning.specs.Entries.{with_entries}
use Rattle.star_meaning.specs.Percent.{percent}
use Rattle.star_meaning.specs.Sets.{merge_new}

-- a row repeated this many times
abbrev pub times : {A : Type 0} → ℕ → List A → List A
times zero xs = []
times (suc n) xs = xs ++ times n xs

-- a count below 1 is 0
abbrev pub count_from : ℤ → ℕ
count_from (pos n) = n
count_from (negsuc n) = 0

-- x + y: ints; two strings, lists or tuples
abbrev pub add : ℕ → Content → Content → Action Value
add line (Number x) (Number y) = new_int line (x +ℤ y)
add line (Held (cell.Text t)) (Held (cell.Text u)) = new_text line (t ++ u)
add line (Held (cell.List xs)) (Held (cell.List ys)) = new_list line (xs ++ ys)
add line (Held (cell.Tuple xs)) (Held (cell.Tuple ys)) = new_tuple line (xs ++ ys)
add line _ _ = fail code.BadType line

-- a string, list or tuple repeated this many times; the payment comes before it is made
abbrev pub repeated : ℕ → Content → ℕ → Action Value
repeated line (Held (cell.Text t)) n = pay line (1 + length t * n) >>= λ _. make (cell.Text (times n t))
repeated line (Held (cell.List xs)) n = pay line (1 + length xs * n) >>= λ _. make (cell.List (times n xs))
repeated line (Held (cell.Tuple xs)) n = pay line (1 + length xs * n) >>= λ _. make (cell.Tuple (times n xs))
repeated line _ n = fail code.BadType line

-- x * y: ints; a string, list or tuple with an int, either way round
abbrev pub multiply : ℕ → Content → Content → Action Value
multiply line (Number x) (Number y) = new_int line (x *ℤ y)
multiply line (Number x) c = repeated line c (count_from x)
multiply line c (Number y) = repeated line c (count_from y)
multiply line _ _ = fail code.BadType line

-- x // y and x % y on ints
abbrev pub divide : ℕ → ℤ → ℤ → Action Value
divide line x y = if int_eq y (pos 0) then fail code.Zero line else new_int line (floored x y)

abbrev pub remainder : ℕ → ℤ → ℤ → Action Value
remainder line x y = if int_eq y (pos 0) then fail code.Zero line else new_int line (left_over x y)

-- x << y and x >> y: a count below 0 is `value`
abbrev pub shift_left : ℕ → ℤ → ℤ → Action Value
shift_left line x (pos n) = new_int line (x *ℤ pos (2 ^ n))
shift_left line x (negsuc n) = fail code.BadValue line

abbrev pub shift_right : ℕ → ℤ → ℤ → Action Value
shift_right line x (pos n) = new_int line (floored_by x (2 ^ n))
shift_right line x (negsuc n) = fail code.BadValue line

-- x | y of dictionaries: the left's entries, then the right's put in; the entries of the result are paid
abbrev pub union : Setting → ℕ → List (Value × Value) → List (Value × Value) → Action Value
union w line es fs = seeing (λ s. new_dict line (with_entries w s es fs))

-- an operator on two ints
abbrev pub on_ints : ℕ → BinaryOperator → ℤ → ℤ → Action Value
on_ints line binary.Add x y = new_int line (x +ℤ y)
on_ints line binary.Subtract x y = new_int line (x -ℤ y)
on_ints line binary.Multiply x y = new_int line (x *ℤ y)
on_ints line binary.FloorDivide x y = divide line x y
on_ints line binary.Modulo x y = remainder line x y
on_ints line binary.ShiftLeft x y = shift_left line x y
on_ints line binary.ShiftRight x y = shift_right line x y
on_ints line binary.BitAnd x y = new_int line (int_bit_and w64 x y)
on_ints line binary.BitXor x y = new_int line (int_bit_xor w64 x y)
on_ints line binary.BitOr x y = new_int line (int_bit_or w64 x y)

-- an operator on operands that are not two ints
abbrev pub on_others : Setting → ℕ → ℕ → BinaryOperator → Content → Content → Value → Action Value
on_others w levels line binary.Add c d y = add line c d
on_others w levels line binary.Multiply c d y = multiply line c d
on_others w levels line binary.Modulo (Held (cell.Text t)) d y = percent w levels line t d y
on_others w levels line binary.BitOr (Held (cell.Dict es)) (Held (cell.Dict fs)) y = union w line es fs
on_others w levels line binary.BitOr (Held (cell.Set es)) (Held (cell.Set fs)) y =
    merge_new w levels line merge.Union es (y ∷ [])
on_others w levels line binary.BitAnd (Held (cell.Set es)) (Held (cell.Set fs)) y =
    merge_new w levels line merge.Intersection es (y ∷ [])
on_others w levels line binary.Subtract (Held (cell.Set es)) (Held (cell.Set fs)) y =
    merge_new w levels line merge.Difference es (y ∷ [])
on_others w levels line binary.BitXor (Held (cell.Set es)) (Held (cell.Set fs)) y =
    merge_new w levels line merge.SymmetricDifference es (y ∷ [])
on_others w levels line _ c d y = fail code.BadType line

abbrev pub on_contents : Setting → ℕ → ℕ → BinaryOperator → Content → Content → Value → Action Value
on_contents w levels line op (Number x) (Number y) v = on_ints line op x y
on_contents w levels line op c d v = on_others w levels line op c d v

-- x op y: any other types of operands are `type`
unfoldable pub operate : Setting → ℕ → ℕ → BinaryOperator → Value → Value → Action Value
operate w levels line op x y = with_content w x (λ c. with_content w y (λ d. on_contents w levels line op c d y))

-- a sign before an int
abbrev pub signed : ℕ → UnaryOperator → ℤ → Action Value
signed line unary.Plus x = give (value.Int x)
signed line unary.Minus x = new_int line (neg_ℤ x)
signed line unary.Invert x = new_int line (int_bit_not w64 x)
signed line unary.Not x = give (value.Bool (int_eq x (pos 0)))

abbrev pub negated : Setting → Value → Action Value
negated w v = is_true w v >>= λ b. give (value.Bool (not b))

-- op x: `not` of any value, the others of ints
abbrev pub on_one : Setting → ℕ → UnaryOperator → Value → Action Value
on_one w line unary.Not v = negated w v
on_one w line op v = with_content w v (λ c. found code.BadType line (int_of c) >>= signed line op)

unfoldable pub prefix : Setting → ℕ → UnaryOperator → Value → Action Value
prefix w line op v = on_one w line op v

-- whether a string is in another one at a place
abbrev pub stands_at : List ℕ → List ℕ → ℕ → Bool
stands_at t u i = starts_with nat_eq (drop i t) u

-- the first of a number of places, from the i-th on, that has u in t
abbrev pub first_place : List ℕ → List ℕ → ℕ → ℕ → Option ℕ
first_place t u zero i = None
first_place t u (suc n) i = if stands_at t u i then Some i else first_place t u n (i + 1)

-- the least place i from a on of u in t, with i and the length of u at most b
abbrev pub place_between : List ℕ → List ℕ → ℕ → ℕ → Option ℕ
place_between t u a b = first_place t u (b + 1 - (a + length u)) a

-- whether an int is in a range: a whole number of steps after the start, fewer than the range has ints
abbrev pub is_below : ℤ → ℕ → Bool
is_below (pos q) n = nat_lt q n
is_below (negsuc q) n = false

abbrev pub range_has : Range → ℤ → Bool
range_has r z =
    not (nat_eq (range_length r) 0) && int_eq (left_over (z -ℤ r.start) r.step) (pos 0)
    && is_below (floored (z -ℤ r.start) r.step) (range_length r)

abbrev pub range_has_value : Range → Option ℤ → Bool
range_has_value r (Some z) = range_has r z
range_has_value r None = false

-- whether one of the items is equal to x: the items are visited in order, up to the first equal one
abbrev pub list_contains : Setting → ℕ → ℕ → List Value → Value → Action Bool
list_contains w levels line [] x = give false
list_contains w levels line (y ∷ ys) x =
    equal w levels line y x >>= λ b. if b then give true else list_contains w levels line ys x

-- whether x is in y: an equal item, a key, an element of a set, an int of a range, a substring
abbrev pub has : Setting → ℕ → ℕ → Content → Value → Action Bool
has w levels line (Held (cell.List ys)) x = list_contains w levels line ys x
has w levels line (Held (cell.Tuple ys)) x = list_contains w levels line ys x
has w levels line (Held (cell.Dict es)) x =
    check_key w levels line x >>= λ _. seeing (λ s. give (is_some (place_in w s x es)))
has w levels line (Held (cell.Set es)) x =
    check_key w levels line x >>= λ _. seeing (λ s. give (is_some (place_in w s x es)))
has w levels line (Held (cell.Range r)) x = with_content w x (λ c. give (range_has_value r (int_of c)))
has w levels line (Held (cell.Text t)) x =
    want_text w line x >>= λ u. pay line (length t) >>= λ _. give (is_some (place_between t u 0 (length t)))
has w levels line _ x = fail code.BadType line

abbrev pub contains : Setting → ℕ → ℕ → Value → Value → Action Bool
contains w levels line x y = with_content w y (λ d. has w levels line d x)

-- the answer of a sign, by the order of two values
abbrev pub ordered : (Ordering → Bool) → Action Ordering → Action Bool
ordered f m = m >>= λ o. give (f o)

-- whether a comparison holds
abbrev pub comparison_holds : Setting → ℕ → ℕ → Comparator → Value → Value → Action Bool
comparison_holds w levels line comparator.Equal x y = equal w levels line x y
comparison_holds w levels line comparator.NotEqual x y = equal w levels line x y >>= λ b. give (not b)
comparison_holds w levels line comparator.Less x y = ordered is_lt (compare w levels line x y)
comparison_holds w levels line comparator.Greater x y = ordered is_gt (compare w levels line x y)
comparison_holds w levels line comparator.LessEqual x y = ordered (λ o. not (is_gt o)) (compare w levels line x y)
comparison_holds w levels line comparator.GreaterEqual x y = ordered (λ o. not (is_lt o)) (compare w levels line x y)
comparison_holds w levels line comparator.In x y = contains w levels line x y
comparison_holds w levels line comparator.NotIn x y = contains w levels line x y >>= λ b. give (not b)

-- x sign y
unfoldable pub comparison : Setting → ℕ → ℕ → Comparator → Value → Value → Action Value
comparison w levels line c x y = comparison_holds w levels line c x y >>= λ b. give (value.Bool b)
