-- Actions that respect every invariant of runs: operators.
use Rattle.std.specs.declared.cmp.Ordering.{Ordering}
use Rattle.star_store.specs.declared.values.Value.{Value}
use Rattle.star_store.specs.declared.values.Cell.TheVariants as cell
use Rattle.star_tree.specs.declared.tree.UnaryOperator.{UnaryOperator}
use Rattle.star_tree.specs.declared.tree.UnaryOperator.TheVariants as unary
use Rattle.star_tree.specs.declared.tree.BinaryOperator.{BinaryOperator}
use Rattle.star_tree.specs.declared.tree.BinaryOperator.TheVariants as binary
use Rattle.star_tree.specs.declared.tree.Comparator.{Comparator}
use Rattle.star_tree.specs.declared.tree.Comparator.TheVariants as comparator
use Rattle.star_meaning.specs.Program.{Setting}
use Rattle.star_meaning.specs.Values.{Content, Number, Held}
use Rattle.std.proofs.Common.{ℕ, List, [], ◌∷◌, Bool, ℤ, pos, negsuc}
use Rattle.star_meaning.specs.Run.{Action}
use Rattle.star_meaning.specs.Operators.{add, repeated, multiply, divide, remainder, shift_left, shift_right, union, on_ints, on_others, on_contents, operate, signed, negated, on_one, prefix, list_contains, has, contains, ordered, comparison_holds, comparison}
use Rattle.star_meaning.proofs.Invariants.{Invariant, Respects, respects}
use Rattle.star_meaning.proofs.Keeps.{keeps, kept_by, Keeps}
use Rattle.star_meaning.proofs.KeepsValues.{respects-with_content, respects-want_text, respects-new_int, respects-new_text, respects-new_tuple, respects-new_list, keeps-new_dict, respects-is_true, respects-equal, respects-compare, respects-check_key}
use Rattle.star_meaning.proofs.KeepsPercent.{respects-percent}
use Rattle.star_meaning.proofs.KeepsSets.{respects-merge_new}

pub respects-add : {w : Setting} {inv : Invariant w} → (line : ℕ) (a1 : Content) (a2 : Content) → Respects inv (add line a1 a2)
respects-add line (Number x) (Number y) = search (respects, respects-new_int) depth 14
respects-add line (Held (cell.Text t)) (Held (cell.Text u)) = search (respects, respects-new_text) depth 14
respects-add line (Held (cell.List xs)) (Held (cell.List ys)) = search (respects, respects-new_list) depth 14
respects-add line (Held (cell.Tuple xs)) (Held (cell.Tuple ys)) = search (respects, respects-new_tuple) depth 14
respects-add line _ _ = search respects depth 14

pub respects-repeated : {w : Setting} {inv : Invariant w} → (line : ℕ) (a1 : Content) (n : ℕ) → Respects inv (repeated line a1 n)
respects-repeated line (Held (cell.Text t)) n = search respects depth 14
respects-repeated line (Held (cell.List xs)) n = search respects depth 14
respects-repeated line (Held (cell.Tuple xs)) n = search respects depth 14
respects-repeated line _ n = search respects depth 14

pub respects-multiply : {w : Setting} {inv : Invariant w} → (line : ℕ) (a1 : Content) (a2 : Content) → Respects inv (multiply line a1 a2)
respects-multiply line (Number x) (Number y) = search (respects, respects-new_int) depth 14
respects-multiply line (Number x) c = search (respects, respects-repeated) depth 14
respects-multiply line c (Number y) = search (respects, respects-repeated) depth 14
respects-multiply line _ _ = search respects depth 14

pub respects-divide : {w : Setting} {inv : Invariant w} → (line : ℕ) (x : ℤ) (y : ℤ) → Respects inv (divide line x y)
respects-divide line x y = search (respects, respects-new_int) depth 14

pub respects-remainder : {w : Setting} {inv : Invariant w} → (line : ℕ) (x : ℤ) (y : ℤ) → Respects inv (remainder line x y)
respects-remainder line x y = search (respects, respects-new_int) depth 14

pub respects-shift_left : {w : Setting} {inv : Invariant w} → (line : ℕ) (x : ℤ) (a2 : ℤ) → Respects inv (shift_left line x a2)
respects-shift_left line x (pos n) = search (respects, respects-new_int) depth 14
respects-shift_left line x (negsuc n) = search respects depth 14

pub respects-shift_right : {w : Setting} {inv : Invariant w} → (line : ℕ) (x : ℤ) (a2 : ℤ) → Respects inv (shift_right line x a2)
respects-shift_right line x (pos n) = search (respects, respects-new_int) depth 14
respects-shift_right line x (negsuc n) = search respects depth 14

pub respects-on_ints : {w : Setting} {inv : Invariant w} → (line : ℕ) (a1 : BinaryOperator) (x : ℤ) (y : ℤ) → Respects inv (on_ints line a1 x y)
respects-on_ints line binary.Add x y = search (respects, respects-new_int) depth 14
respects-on_ints line binary.Subtract x y = search (respects, respects-new_int) depth 14
respects-on_ints line binary.Multiply x y = search (respects, respects-new_int) depth 14
respects-on_ints line binary.FloorDivide x y = search (respects, respects-divide) depth 14
respects-on_ints line binary.Modulo x y = search (respects, respects-remainder) depth 14
respects-on_ints line binary.ShiftLeft x y = search (respects, respects-shift_left) depth 14
respects-on_ints line binary.ShiftRight x y = search (respects, respects-shift_right) depth 14
respects-on_ints line binary.BitAnd x y = search (respects, respects-new_int) depth 14
respects-on_ints line binary.BitXor x y = search (respects, respects-new_int) depth 14
respects-on_ints line binary.BitOr x y = search (respects, respects-new_int) depth 14

pub respects-signed : {w : Setting} {inv : Invariant w} → (line : ℕ) (a1 : UnaryOperator) (x : ℤ) → Respects inv (signed line a1 x)
respects-signed line unary.Plus x = search respects depth 14
respects-signed line unary.Minus x = search (respects, respects-new_int) depth 14
respects-signed line unary.Invert x = search (respects, respects-new_int) depth 14
respects-signed line unary.Not x = search respects depth 14

pub respects-negated : (w : Setting) {inv : Invariant w} (v : Value) → Respects inv (negated w v)
respects-negated w v = search (respects, respects-is_true) depth 14

pub respects-on_one : (w : Setting) {inv : Invariant w} (line : ℕ) (a2 : UnaryOperator) (v : Value) → Respects inv (on_one w line a2 v)
respects-on_one w line unary.Not v = search (respects, respects-negated) depth 14
respects-on_one w line op v = search (respects, respects-with_content, respects-signed) depth 14

pub respects-prefix : (w : Setting) {inv : Invariant w} (line : ℕ) (op : UnaryOperator) (v : Value) → Respects inv (prefix w line op v)
unfolding prefix
respects-prefix w line op v = search (respects, respects-on_one) depth 14

pub respects-list_contains : (w : Setting) {inv : Invariant w} (levels : ℕ) (line : ℕ) (a3 : List Value) (x : Value) → Respects inv (list_contains w levels line a3 x)
respects-list_contains w levels line [] x = search respects depth 14
respects-list_contains w {inv = inv} levels line (y ∷ ys) x = let h1 : (z5 : Value) → Respects inv (list_contains w levels line ys z5) = λ z5. respects-list_contains w levels line ys z5 in search (respects, respects-equal, h1) depth 14

pub respects-has : (w : Setting) {inv : Invariant w} (levels : ℕ) (line : ℕ) (a3 : Content) (x : Value) → Respects inv (has w levels line a3 x)
respects-has w levels line (Held (cell.List ys)) x = search (respects, respects-list_contains) depth 14
respects-has w levels line (Held (cell.Tuple ys)) x = search (respects, respects-list_contains) depth 14
respects-has w levels line (Held (cell.Dict es)) x = search (respects, respects-check_key) depth 14
respects-has w levels line (Held (cell.Set es)) x = search (respects, respects-check_key) depth 14
respects-has w levels line (Held (cell.Range r)) x = search (respects, respects-with_content) depth 14
respects-has w levels line (Held (cell.Text t)) x = search (respects, respects-want_text) depth 14
respects-has w levels line _ x = search respects depth 14

pub respects-contains : (w : Setting) {inv : Invariant w} (levels : ℕ) (line : ℕ) (x : Value) (y : Value) → Respects inv (contains w levels line x y)
respects-contains w levels line x y = search (respects, respects-with_content, respects-has) depth 14

pub respects-ordered : {w : Setting} {inv : Invariant w} → (f : (Ordering → Bool)) (m : Action Ordering) → Respects inv m → Respects inv (ordered f m)
respects-ordered f m k0 = search respects depth 14

pub respects-comparison_holds : (w : Setting) {inv : Invariant w} (levels : ℕ) (line : ℕ) (a3 : Comparator) (x : Value) (y : Value) → Respects inv (comparison_holds w levels line a3 x y)
respects-comparison_holds w levels line comparator.Equal x y = search (respects, respects-equal) depth 14
respects-comparison_holds w levels line comparator.NotEqual x y = search (respects, respects-equal) depth 14
respects-comparison_holds w levels line comparator.Less x y = search (respects, respects-compare, respects-ordered) depth 14
respects-comparison_holds w levels line comparator.Greater x y = search (respects, respects-compare, respects-ordered) depth 14
respects-comparison_holds w levels line comparator.LessEqual x y = search (respects, respects-compare, respects-ordered) depth 14
respects-comparison_holds w levels line comparator.GreaterEqual x y = search (respects, respects-compare, respects-ordered) depth 14
respects-comparison_holds w levels line comparator.In x y = search (respects, respects-contains) depth 14
respects-comparison_holds w levels line comparator.NotIn x y = search (respects, respects-contains) depth 14

pub respects-comparison : (w : Setting) {inv : Invariant w} (levels : ℕ) (line : ℕ) (c : Comparator) (x : Value) (y : Value) → Respects inv (comparison w levels line c x y)
unfolding comparison
respects-comparison w levels line c x y = search (respects, respects-comparison_holds) depth 14

pub keeps-union : {q : Bool} → (w : Setting) (line : ℕ) (es : List (Value × Value)) (fs : List (Value × Value)) → Keeps q (union w line es fs)
keeps-union w line es fs = search (keeps, keeps-new_dict) depth 14

pub keeps-on_others : {q : Bool} → (w : Setting) (levels : ℕ) (line : ℕ) (a3 : BinaryOperator) (c : Content) (d : Content) (y : Value) → Keeps q (on_others w levels line a3 c d y)
keeps-on_others w levels line binary.Add c d y = search (keeps, kept_by w, respects-add) depth 14
keeps-on_others w levels line binary.Multiply c d y = search (keeps, kept_by w, respects-multiply) depth 14
keeps-on_others w levels line binary.Modulo (Held (cell.Text t)) d y = search (keeps, kept_by w, respects-percent) depth 14
keeps-on_others w levels line binary.BitOr (Held (cell.Dict es)) (Held (cell.Dict fs)) y = search (keeps, keeps-union) depth 14
keeps-on_others w levels line binary.BitOr (Held (cell.Set es)) (Held (cell.Set fs)) y = search (keeps, kept_by w, respects-merge_new) depth 14
keeps-on_others w levels line binary.BitAnd (Held (cell.Set es)) (Held (cell.Set fs)) y = search (keeps, kept_by w, respects-merge_new) depth 14
keeps-on_others w levels line binary.Subtract (Held (cell.Set es)) (Held (cell.Set fs)) y = search (keeps, kept_by w, respects-merge_new) depth 14
keeps-on_others w levels line binary.BitXor (Held (cell.Set es)) (Held (cell.Set fs)) y = search (keeps, kept_by w, respects-merge_new) depth 14
keeps-on_others w levels line _ c d y = search keeps depth 14

pub keeps-on_contents : {q : Bool} → (w : Setting) (levels : ℕ) (line : ℕ) (op : BinaryOperator) (a4 : Content) (a5 : Content) (v : Value) → Keeps q (on_contents w levels line op a4 a5 v)
keeps-on_contents w levels line op (Number x) (Number y) v = search (keeps, kept_by w, respects-on_ints) depth 14
keeps-on_contents w levels line op c d v = search (keeps, keeps-on_others) depth 14

pub keeps-operate : {q : Bool} → (w : Setting) (levels : ℕ) (line : ℕ) (op : BinaryOperator) (x : Value) (y : Value) → Keeps q (operate w levels line op x y)
unfolding operate
keeps-operate w levels line op x y = search (keeps, keeps-on_contents) depth 14
