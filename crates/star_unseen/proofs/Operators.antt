-- Pairs of actions that do the same over two shelves: operators.
use Rattle.std.proofs.Common.{ℕ, zero, suc, ◌+◌, ◌*◌, ◌^◌, ◌++◌, length, List, [], ◌∷◌, is_some, Bool, true, false, not, ℤ, pos, negsuc, ◌+ℤ◌, ◌-ℤ◌, ◌*ℤ◌, neg_ℤ, subst}
use Rattle.std.specs.Int.{w64, int_bit_and, int_bit_or, int_bit_xor, int_bit_not}
use Rattle.std.specs.Ordering.{int_eq, is_lt, is_gt}
use Rattle.std.specs.declared.cmp.Ordering.{Ordering}
use Rattle.star_store.specs.declared.values.Value.{Value}
use Rattle.star_store.specs.declared.values.Value.TheVariants as value
use Rattle.star_store.specs.declared.values.Cell.TheVariants as cell
use Rattle.star_store.specs.Arithmetic.{floored, floored_by, left_over}
use Rattle.star_tree.specs.declared.tree.UnaryOperator.{UnaryOperator}
use Rattle.star_tree.specs.declared.tree.UnaryOperator.TheVariants as unary
use Rattle.star_tree.specs.declared.tree.BinaryOperator.{BinaryOperator}
use Rattle.star_tree.specs.declared.tree.BinaryOperator.TheVariants as binary
use Rattle.star_tree.specs.declared.tree.Comparator.{Comparator}
use Rattle.star_tree.specs.declared.tree.Comparator.TheVariants as comparator
use Rattle.star_meaning.specs.declared.fault.FaultCode.TheVariants as code
use Rattle.star_meaning.specs.Run.{Action, give}
use Rattle.star_meaning.specs.Program.{Setting}
use Rattle.star_meaning.specs.Values.{Content, Number, Held, int_of, new_dict, place_in}
use Rattle.star_meaning.specs.Operators.{times, count_from, add, repeated, multiply, divide, remainder, shift_left, shift_right, union, on_ints, on_others, on_contents, operate, signed, negated, on_one, prefix, place_between, range_has_value, list_contains, has, contains, ordered, comparison_holds, comparison}
use Rattle.star_meaning.specs.declared.merge.Merge.TheVariants as merge
use Rattle.star_meaning.specs.Entries.{with_entries}
use Rattle.star_unseen.specs.Veil.{AreVisible, Every, IsVisible, PairsAreVisible}
use Rattle.star_unseen.specs.Shelves.{Veil, with_other}
use Rattle.star_unseen.proofs.Rows.{every_append}
use Rattle.star_unseen.proofs.Looks.{ContentIsVisible}
use Rattle.star_unseen.proofs.Alike.{Alike, Any, alike_content, alike_fail, alike_found, alike_give, alike_if, alike_make, alike_pay, alike_seeing, alike_then}
use Rattle.star_unseen.proofs.Values.{any_found, alike-want_text, alike-new_int, alike-new_text, alike-new_tuple, alike-new_list, alike-new_dict, alike-is_true, alike-equal, alike-compare, alike-check_key, same-place_in}
use Rattle.star_unseen.proofs.Entries.{visible-with_entries, same-with_entries}
use Rattle.star_unseen.proofs.Percent.{alike-percent}
use Rattle.star_unseen.proofs.Sets.{alike-merge_new}

-- ---- rows

pub every_times : {A : Type 0} (P : A → Type 0) (n : ℕ) (xs : List A) → Every P xs → Every P (times n xs)
every_times P zero xs h = tt
every_times P (suc n) xs h = every_append P xs (times n xs) h (every_times P n xs h)

-- ---- operators of two operands

pub alike-add : {w : Setting} (k : Veil w) (line : ℕ) (c d : Content) → ContentIsVisible k.hides c → ContentIsVisible k.hides d → Alike k (IsVisible k.hides) (add line c d) (add line c d)
alike-add k line (Number x) (Number y) h l = alike-new_int k line (x +ℤ y)
alike-add k line (Held (cell.Text t)) (Held (cell.Text u)) h l = alike-new_text k line (t ++ u)
alike-add k line (Held (cell.List xs)) (Held (cell.List ys)) h l = alike-new_list k line (xs ++ ys) (every_append _ xs ys h l)
alike-add k line (Held (cell.Tuple xs)) (Held (cell.Tuple ys)) h l = alike-new_tuple k line (xs ++ ys) (every_append _ xs ys h l)
alike-add k line _ _ h l = alike_fail Value (IsVisible k.hides) code.BadType line

pub alike-repeated : {w : Setting} (k : Veil w) (line : ℕ) (c : Content) (n : ℕ) → ContentIsVisible k.hides c → Alike k (IsVisible k.hides) (repeated line c n) (repeated line c n)
alike-repeated k line (Held (cell.Text t)) n h = alike_then (alike_pay line (1 + length t * n)) (λ _ _. alike_make (cell.Text (times n t)) tt)
alike-repeated k line (Held (cell.List xs)) n h = alike_then (alike_pay line (1 + length xs * n)) (λ _ _. alike_make (cell.List (times n xs)) (every_times _ n xs h))
alike-repeated k line (Held (cell.Tuple xs)) n h = alike_then (alike_pay line (1 + length xs * n)) (λ _ _. alike_make (cell.Tuple (times n xs)) (every_times _ n xs h))
alike-repeated k line _ n h = alike_fail Value (IsVisible k.hides) code.BadType line

pub alike-multiply : {w : Setting} (k : Veil w) (line : ℕ) (c d : Content) → ContentIsVisible k.hides c → ContentIsVisible k.hides d → Alike k (IsVisible k.hides) (multiply line c d) (multiply line c d)
alike-multiply k line (Number x) (Number y) h l = alike-new_int k line (x *ℤ y)
alike-multiply k line (Number x) d h l = alike-repeated k line d (count_from x) l
alike-multiply k line c (Number y) h l = alike-repeated k line c (count_from y) h
alike-multiply k line _ _ h l = alike_fail Value (IsVisible k.hides) code.BadType line

pub alike-divide : {w : Setting} (k : Veil w) (line : ℕ) (x y : ℤ) → Alike k (IsVisible k.hides) (divide line x y) (divide line x y)
alike-divide k line x y = alike_if (IsVisible k.hides) (int_eq y (pos 0)) _ _ _ _ (alike_fail Value (IsVisible k.hides) code.Zero line) (alike-new_int k line (floored x y))

pub alike-remainder : {w : Setting} (k : Veil w) (line : ℕ) (x y : ℤ) → Alike k (IsVisible k.hides) (remainder line x y) (remainder line x y)
alike-remainder k line x y = alike_if (IsVisible k.hides) (int_eq y (pos 0)) _ _ _ _ (alike_fail Value (IsVisible k.hides) code.Zero line) (alike-new_int k line (left_over x y))

pub alike-shift_left : {w : Setting} (k : Veil w) (line : ℕ) (x y : ℤ) → Alike k (IsVisible k.hides) (shift_left line x y) (shift_left line x y)
alike-shift_left k line x (pos n) = alike-new_int k line (x *ℤ pos (2 ^ n))
alike-shift_left k line x (negsuc n) = alike_fail Value (IsVisible k.hides) code.BadValue line

pub alike-shift_right : {w : Setting} (k : Veil w) (line : ℕ) (x y : ℤ) → Alike k (IsVisible k.hides) (shift_right line x y) (shift_right line x y)
alike-shift_right k line x (pos n) = alike-new_int k line (floored_by x (2 ^ n))
alike-shift_right k line x (negsuc n) = alike_fail Value (IsVisible k.hides) code.BadValue line

pub alike-union : {w : Setting} (k : Veil w) (line : ℕ) (es fs : List (Value × Value)) → PairsAreVisible k.hides es → PairsAreVisible k.hides fs → Alike k (IsVisible k.hides) (union w line es fs) (union (with_other k.other w) line es fs)
alike-union {w = w} k line es fs h l = alike_seeing (IsVisible k.hides) _ _ (λ s c.
    subst (λ gs. Alike k (IsVisible k.hides) (new_dict line (with_entries w s es fs)) (new_dict line gs)) (same-with_entries k s es fs c h l)
    (alike-new_dict k line (with_entries w s es fs) (visible-with_entries k s es fs h l)))

pub alike-on_ints : {w : Setting} (k : Veil w) (line : ℕ) (op : BinaryOperator) (x y : ℤ) → Alike k (IsVisible k.hides) (on_ints line op x y) (on_ints line op x y)
alike-on_ints k line binary.Add x y = alike-new_int k line (x +ℤ y)
alike-on_ints k line binary.Subtract x y = alike-new_int k line (x -ℤ y)
alike-on_ints k line binary.Multiply x y = alike-new_int k line (x *ℤ y)
alike-on_ints k line binary.FloorDivide x y = alike-divide k line x y
alike-on_ints k line binary.Modulo x y = alike-remainder k line x y
alike-on_ints k line binary.ShiftLeft x y = alike-shift_left k line x y
alike-on_ints k line binary.ShiftRight x y = alike-shift_right k line x y
alike-on_ints k line binary.BitAnd x y = alike-new_int k line (int_bit_and w64 x y)
alike-on_ints k line binary.BitXor x y = alike-new_int k line (int_bit_xor w64 x y)
alike-on_ints k line binary.BitOr x y = alike-new_int k line (int_bit_or w64 x y)

pub alike-on_others : {w : Setting} (k : Veil w) (levels line : ℕ) (op : BinaryOperator) (c d : Content) (y : Value) → ContentIsVisible k.hides c → ContentIsVisible k.hides d → IsVisible k.hides y → Alike k (IsVisible k.hides) (on_others w levels line op c d y) (on_others (with_other k.other w) levels line op c d y)
alike-on_others k levels line binary.Add c d y h l r = alike-add k line c d h l
alike-on_others k levels line binary.Multiply c d y h l r = alike-multiply k line c d h l
alike-on_others k levels line binary.Modulo (Held (cell.Text t)) d y h l r = alike-percent k levels line t d y l r
alike-on_others k levels line binary.BitOr (Held (cell.Dict es)) (Held (cell.Dict fs)) y h l r = alike-union k line es fs h l
alike-on_others k levels line binary.BitOr (Held (cell.Set es)) (Held (cell.Set fs)) y h l r = alike-merge_new k levels line merge.Union es (y ∷ []) h (r, tt)
alike-on_others k levels line binary.BitAnd (Held (cell.Set es)) (Held (cell.Set fs)) y h l r = alike-merge_new k levels line merge.Intersection es (y ∷ []) h (r, tt)
alike-on_others k levels line binary.Subtract (Held (cell.Set es)) (Held (cell.Set fs)) y h l r = alike-merge_new k levels line merge.Difference es (y ∷ []) h (r, tt)
alike-on_others k levels line binary.BitXor (Held (cell.Set es)) (Held (cell.Set fs)) y h l r = alike-merge_new k levels line merge.SymmetricDifference es (y ∷ []) h (r, tt)
alike-on_others k levels line _ c d y h l r = alike_fail Value (IsVisible k.hides) code.BadType line

pub alike-on_contents : {w : Setting} (k : Veil w) (levels line : ℕ) (op : BinaryOperator) (c d : Content) (v : Value) → ContentIsVisible k.hides c → ContentIsVisible k.hides d → IsVisible k.hides v → Alike k (IsVisible k.hides) (on_contents w levels line op c d v) (on_contents (with_other k.other w) levels line op c d v)
alike-on_contents k levels line op (Number x) (Number y) v h l r = alike-on_ints k line op x y
alike-on_contents k levels line op c d v h l r = alike-on_others k levels line op c d v h l r

pub alike-operate : {w : Setting} (k : Veil w) (levels line : ℕ) (op : BinaryOperator) (x y : Value) → IsVisible k.hides x → IsVisible k.hides y → Alike k (IsVisible k.hides) (operate w levels line op x y) (operate (with_other k.other w) levels line op x y)
unfolding operate
alike-operate k levels line op x y h l =
    alike_content (IsVisible k.hides) x _ _ h (λ c hc. alike_content (IsVisible k.hides) y _ _ l (λ d hd. alike-on_contents k levels line op c d y hc hd l))

-- ---- operators of one operand

pub alike-signed : {w : Setting} (k : Veil w) (line : ℕ) (op : UnaryOperator) (x : ℤ) → Alike k (IsVisible k.hides) (signed line op x) (signed line op x)
alike-signed k line unary.Plus x = alike_give (IsVisible k.hides) (value.Int x) tt
alike-signed k line unary.Minus x = alike-new_int k line (neg_ℤ x)
alike-signed k line unary.Invert x = alike-new_int k line (int_bit_not w64 x)
alike-signed k line unary.Not x = alike_give (IsVisible k.hides) (value.Bool (int_eq x (pos 0))) tt

pub alike-negated : {w : Setting} (k : Veil w) (v : Value) → IsVisible k.hides v → Alike k (IsVisible k.hides) (negated w v) (negated (with_other k.other w) v)
alike-negated k v h = alike_then (alike-is_true k v h) (λ b _. alike_give (IsVisible k.hides) (value.Bool (not b)) tt)

pub alike-on_one : {w : Setting} (k : Veil w) (line : ℕ) (op : UnaryOperator) (v : Value) → IsVisible k.hides v → Alike k (IsVisible k.hides) (on_one w line op v) (on_one (with_other k.other w) line op v)
alike-on_one k line unary.Not v h = alike-negated k v h
alike-on_one k line op v h = alike_content (IsVisible k.hides) v _ _ h (λ c _. alike_then (alike_found Any code.BadType line (int_of c) (any_found (int_of c))) (λ z _. alike-signed k line op z))

pub alike-prefix : {w : Setting} (k : Veil w) (line : ℕ) (op : UnaryOperator) (v : Value) → IsVisible k.hides v → Alike k (IsVisible k.hides) (prefix w line op v) (prefix (with_other k.other w) line op v)
unfolding prefix
alike-prefix k line op v h = alike-on_one k line op v h

-- ---- comparisons

pub alike-list_contains : {w : Setting} (k : Veil w) (levels line : ℕ) (ys : List Value) (x : Value) → AreVisible k.hides ys → IsVisible k.hides x → Alike k Any (list_contains w levels line ys x) (list_contains (with_other k.other w) levels line ys x)
alike-list_contains k levels line [] x h l = alike_give Any false tt
alike-list_contains k levels line (y ∷ ys) x h l =
    alike_then (alike-equal k levels line y x h.0 l) (λ b _. alike_if Any b _ _ _ _ (alike_give Any true tt) (alike-list_contains k levels line ys x h.1 l))

pub alike-has : {w : Setting} (k : Veil w) (levels line : ℕ) (c : Content) (x : Value) → ContentIsVisible k.hides c → IsVisible k.hides x → Alike k Any (has w levels line c x) (has (with_other k.other w) levels line c x)
alike-has k levels line (Held (cell.List ys)) x h l = alike-list_contains k levels line ys x h l
alike-has k levels line (Held (cell.Tuple ys)) x h l = alike-list_contains k levels line ys x h l
alike-has {w = w} k levels line (Held (cell.Dict es)) x h l =
    alike_then (alike-check_key k levels line x l) (λ _ _. alike_seeing {A = Bool} Any _ _ (λ s c.
    subst (λ o. Alike {A = Bool} k Any (give (is_some (place_in w s x es))) (give (is_some o))) (same-place_in k s x es c l h)
    (alike_give Any (is_some (place_in w s x es)) tt)))
alike-has {w = w} k levels line (Held (cell.Set es)) x h l =
    alike_then (alike-check_key k levels line x l) (λ _ _. alike_seeing {A = Bool} Any _ _ (λ s c.
    subst (λ o. Alike {A = Bool} k Any (give (is_some (place_in w s x es))) (give (is_some o))) (same-place_in k s x es c l h)
    (alike_give Any (is_some (place_in w s x es)) tt)))
alike-has k levels line (Held (cell.Range r)) x h l = alike_content Any x _ _ l (λ c _. alike_give Any (range_has_value r (int_of c)) tt)
alike-has k levels line (Held (cell.Text t)) x h l =
    alike_then (alike-want_text k line x l) (λ u _. alike_then (alike_pay line (length t)) (λ _ _. alike_give Any (is_some (place_between t u 0 (length t))) tt))
alike-has k levels line _ x h l = alike_fail Bool Any code.BadType line

pub alike-contains : {w : Setting} (k : Veil w) (levels line : ℕ) (x y : Value) → IsVisible k.hides x → IsVisible k.hides y → Alike k Any (contains w levels line x y) (contains (with_other k.other w) levels line x y)
alike-contains k levels line x y h l = alike_content Any y _ _ l (λ d hd. alike-has k levels line d x hd h)

pub alike-ordered : {w : Setting} (k : Veil w) (f : Ordering → Bool) (m n : Action Ordering) → Alike k Any m n → Alike k Any (ordered f m) (ordered f n)
alike-ordered k f m n h = alike_then h (λ o _. alike_give Any (f o) tt)

pub alike-comparison_holds : {w : Setting} (k : Veil w) (levels line : ℕ) (c : Comparator) (x y : Value) → IsVisible k.hides x → IsVisible k.hides y → Alike k Any (comparison_holds w levels line c x y) (comparison_holds (with_other k.other w) levels line c x y)
alike-comparison_holds k levels line comparator.Equal x y h l = alike-equal k levels line x y h l
alike-comparison_holds k levels line comparator.NotEqual x y h l = alike_then (alike-equal k levels line x y h l) (λ b _. alike_give Any (not b) tt)
alike-comparison_holds k levels line comparator.Less x y h l = alike-ordered k is_lt _ _ (alike-compare k levels line x y h l)
alike-comparison_holds k levels line comparator.Greater x y h l = alike-ordered k is_gt _ _ (alike-compare k levels line x y h l)
alike-comparison_holds k levels line comparator.LessEqual x y h l = alike-ordered k (λ o. not (is_gt o)) _ _ (alike-compare k levels line x y h l)
alike-comparison_holds k levels line comparator.GreaterEqual x y h l = alike-ordered k (λ o. not (is_lt o)) _ _ (alike-compare k levels line x y h l)
alike-comparison_holds k levels line comparator.In x y h l = alike-contains k levels line x y h l
alike-comparison_holds k levels line comparator.NotIn x y h l = alike_then (alike-contains k levels line x y h l) (λ b _. alike_give Any (not b) tt)

pub alike-comparison : {w : Setting} (k : Veil w) (levels line : ℕ) (c : Comparator) (x y : Value) → IsVisible k.hides x → IsVisible k.hides y → Alike k (IsVisible k.hides) (comparison w levels line c x y) (comparison (with_other k.other w) levels line c x y)
unfolding comparison
alike-comparison k levels line c x y h l = alike_then (alike-comparison_holds k levels line c x y h l) (λ b _. alike_give (IsVisible k.hides) (value.Bool b) tt)
