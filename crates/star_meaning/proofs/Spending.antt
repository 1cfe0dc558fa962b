-- The invariants of every visit of values, in one record: it only lowers the steps; and if it is not refused for want
-- of steps, it is the same with more.
use Rattle.star_store.specs.declared.values.Value.{Value}
use Rattle.star_store.specs.declared.values.Value.TheVariants as value
use Rattle.star_store.specs.declared.values.Cell.{Cell}
use Rattle.star_store.specs.declared.values.Cell.TheVariants as cell
use Rattle.star_store.specs.declared.fault.StoreFault.{StoreFault}
use Rattle.star_store.specs.Key.{check_each, check_cell, check_value, check}
use Rattle.star_store.specs.Fields.{Fields}
use Rattle.star_store.specs.declared.layout.Layout.{Layout}
use Rattle.star_store.specs.Json.{put_place, put_items, put_array, put_nth, put_elements, put_set, put_named, put_member, put_members, put_object, put_dict, put_cell, put_value, json}
use Rattle.star_store.specs.Equal.{same_pair, same_place, same_items, same_fields, same_found, same_pairs, same_entry, same_entries, same_cells, same_values, same}
use Rattle.std.specs.declared.cmp.Ordering.{Ordering}
use Rattle.star_store.specs.Order.{order_places, order_pair, order_place, order_items, order_cells, order_values, order}
use Rattle.star_store.specs.Text.{say, say_parts, then_say, all_said, say_element, say_nth, say_elements, say_set, say_item, say_place, say_items, say_pair, say_entry, say_entries, say_named, say_field, say_fields, say_struct, say_tuple, say_new_list, say_new_dict, say_list, say_dict, say_cell, say_value, text}
use Rattle.std.proofs.Common.{ℕ, zero, suc, ◌+◌, List, [], ◌∷◌, Option, Some, None, Bool, true, false, if◌then◌else◌}
use Rattle.star_store.specs.Spend.{Spend, Enough, Lacks, answer, spend_then, visited, all_places}
use Rattle.star_meaning.specs.Values.{bare}
use Rattle.star_meaning.proofs.Lowers as down
use Rattle.star_meaning.proofs.Reaches as far

pub record Spends {A : Type 0} (o : Spend A) : Type 0 where
  pub lowers : down.Lowers o
  pub reaches : far.Reaches o

spends_then : {A B : Type 0} (o : Spend A) (f : A → Spend B) → Spends o → ((x : A) → Spends (f x)) → Spends (λ n. spend_then (o n) f)
spends_then o f h k = record { lowers = down.lowers_then o f h.lowers (λ x. (k x).lowers); reaches = far.reaches_then o f h.reaches (λ x. (k x).reaches) }

spends_answer : {A : Type 0} (x : A) → Spends (answer x)
spends_answer x = record { lowers = down.lowers_answer x; reaches = far.reaches_answer x }

spends_enough : {A : Type 0} (x : A) → Spends (λ n. Enough x n)
spends_enough x = record { lowers = down.lowers_enough x; reaches = far.reaches_enough x }

spends_lacks : (A : Type 0) (f : StoreFault) → Spends {A = A} (λ n. Lacks f n)
spends_lacks A f = record { lowers = down.lowers_lacks A f; reaches = far.reaches_lacks A f }

spends_if : {A : Type 0} (b : Bool) (o p : Spend A) → Spends o → Spends p → Spends (if b then o else p)
spends_if true o p h k = h
spends_if false o p h k = k

spends_choice : {A : Type 0} (b : Bool) (o p : Spend A) → Spends o → Spends p → Spends (λ n. if b then o n else p n)
spends_choice true o p h k = h
spends_choice false o p h k = k

spends_visited : {A : Type 0} (o : Spend A) → Spends o → Spends (visited o)
spends_visited o h = record { lowers = down.lowers_visited o h.lowers; reaches = far.reaches_visited o h.reaches }

spends_places : (f : ℕ → Spend Bool) (n i : ℕ) → ((i : ℕ) → Spends (f i)) → Spends (all_places f n i)
spends_places f zero i k = spends_answer true
spends_places f (suc n) i k = spends_then (f i) _ (k i) (λ b. spends_if b _ _ (spends_places f n (i + 1) k) (spends_answer false))

ruleset spends = (spends_then, spends_answer, spends_enough, spends_lacks, spends_if, spends_choice, spends_visited, spends_places)

pub spends-check_each : (f : (Value → Spend (Unit {0}))) (a1 : List Value) → ((x0 : Value) → Spends (f x0)) → Spends (check_each f a1)
spends-check_each f [] k0 = search spends depth 14
spends-check_each f (x ∷ xs) k0 = spends_then (f x) (λ _. check_each f xs) (k0 x) (λ _. spends-check_each f xs k0)

pub spends-check_cell : (f : (Value → Spend (Unit {0}))) (a1 : Option Cell) → ((x0 : Value) → Spends (f x0)) → Spends (check_cell f a1)
spends-check_cell f (Some (cell.Text t)) k0 = search spends depth 14
spends-check_cell f (Some (cell.Tuple xs)) k0 = search (spends, spends-check_each) depth 14
spends-check_cell f (Some (cell.Struct fs)) k0 = search (spends, spends-check_each) depth 14
spends-check_cell f _ k0 = search spends depth 14

pub spends-check_value : (look : (Value → Option Cell)) (f : (Value → Spend (Unit {0}))) (a2 : Value) → ((x0 : Value) → Spends (f x0)) → Spends (check_value look f a2)
spends-check_value look f value.NoneValue k0 = search spends depth 14
spends-check_value look f (value.Bool b) k0 = search spends depth 14
spends-check_value look f (value.Int n) k0 = search spends depth 14
spends-check_value look f (value.Ref h a) k0 = search (spends, spends-check_cell) depth 14
spends-check_value look f _ k0 = search spends depth 14

pub spends-check : (look : (Value → Option Cell)) (a1 : ℕ) (v : Value) → Spends (check look a1 v)
unfolding check
spends-check look zero v = search spends depth 14
spends-check look (suc levels) v = let h1 : (z2 : Value) → Spends (check look levels z2) = λ z2. spends-check look levels z2 in search (spends, spends-check_value, h1) depth 14

pub spends-same_pair : (f : (Value → Value → Spend Bool)) (a1 : Option Value) (a2 : Option Value) → ((x0 : Value) (x1 : Value) → Spends (f x0 x1)) → Spends (same_pair f a1 a2)
spends-same_pair f (Some x) (Some y) k0 = search spends depth 14
spends-same_pair f _ _ k0 = search spends depth 14

pub spends-same_place : (f : (Value → Value → Spend Bool)) (xs : List Value) (ys : List Value) (i : ℕ) → ((x0 : Value) (x1 : Value) → Spends (f x0 x1)) → Spends (same_place f xs ys i)
spends-same_place f xs ys i k0 = search (spends, spends-same_pair) depth 14

pub spends-same_items : (f : (Value → Value → Spend Bool)) (xs : List Value) (ys : List Value) → ((x0 : Value) (x1 : Value) → Spends (f x0 x1)) → Spends (same_items f xs ys)
spends-same_items f xs ys k0 = search (spends, spends-same_place) depth 14

pub spends-same_found : (f : (Value → Value → Spend Bool)) (x : Value) (a2 : Option Value) → ((x0 : Value) (x1 : Value) → Spends (f x0 x1)) → Spends (same_found f x a2)
spends-same_found f x (Some y) k0 = search spends depth 14
spends-same_found f x None k0 = search spends depth 14

pub spends-same_pairs : (look : (Value → Option Cell)) (f : (Value → Value → Spend Bool)) (ys : List (Value × Value)) (a3 : Option (Value × Value)) → ((x0 : Value) (x1 : Value) → Spends (f x0 x1)) → Spends (same_pairs look f ys a3)
spends-same_pairs look f ys (Some e) k0 = search (spends, spends-same_found) depth 14
spends-same_pairs look f ys None k0 = search spends depth 14

pub spends-same_entry : (look : (Value → Option Cell)) (f : (Value → Value → Spend Bool)) (xs : List (Value × Value)) (ys : List (Value × Value)) (i : ℕ) → ((x0 : Value) (x1 : Value) → Spends (f x0 x1)) → Spends (same_entry look f xs ys i)
spends-same_entry look f xs ys i k0 = search (spends, spends-same_pairs) depth 14

pub spends-same_entries : (look : (Value → Option Cell)) (f : (Value → Value → Spend Bool)) (xs : List (Value × Value)) (ys : List (Value × Value)) → ((x0 : Value) (x1 : Value) → Spends (f x0 x1)) → Spends (same_entries look f xs ys)
spends-same_entries look f xs ys k0 = search (spends, spends-same_entry) depth 14

pub spends-same_fields : (f : (Value → Value → Spend Bool)) (xs : Fields) (ys : Fields) → ((x0 : Value) (x1 : Value) → Spends (f x0 x1)) → Spends (same_fields f xs ys)
spends-same_fields f xs ys k0 = search (spends, spends-same_items) depth 14

pub spends-same_cells : (look : (Value → Option Cell)) (f : (Value → Value → Spend Bool)) (one : Bool) (a3 : Option Cell) (a4 : Option Cell) → ((x0 : Value) (x1 : Value) → Spends (f x0 x1)) → Spends (same_cells look f one a3 a4)
spends-same_cells look f one (Some (cell.Text t)) (Some (cell.Text u)) k0 = search spends depth 14
spends-same_cells look f one (Some (cell.Range r)) (Some (cell.Range s)) k0 = search spends depth 14
spends-same_cells look f one (Some (cell.Tuple xs)) (Some (cell.Tuple ys)) k0 = search (spends, spends-same_items) depth 14
spends-same_cells look f one (Some (cell.List xs)) (Some (cell.List ys)) k0 = search (spends, spends-same_items) depth 14
spends-same_cells look f one (Some (cell.Dict xs)) (Some (cell.Dict ys)) k0 = search (spends, spends-same_entries) depth 14
spends-same_cells look f one (Some (cell.Set xs)) (Some (cell.Set ys)) k0 = search (spends, spends-same_entries) depth 14
spends-same_cells look f one (Some (cell.Func g)) (Some (cell.Func h)) k0 = search spends depth 14
spends-same_cells look f one (Some (cell.Bound m x)) (Some (cell.Bound n y)) k0 = search spends depth 14
spends-same_cells look f one (Some (cell.Struct xs)) (Some (cell.Struct ys)) k0 = search (spends, spends-same_fields) depth 14
spends-same_cells look f one _ _ k0 = search spends depth 14

pub spends-same_values : (look : (Value → Option Cell)) (f : (Value → Value → Spend Bool)) (a2 : Value) (a3 : Value) → ((x0 : Value) (x1 : Value) → Spends (f x0 x1)) → Spends (same_values look f a2 a3)
spends-same_values look f value.NoneValue value.NoneValue k0 = search spends depth 14
spends-same_values look f (value.Bool b) (value.Bool c) k0 = search spends depth 14
spends-same_values look f (value.Int m) (value.Int n) k0 = search spends depth 14
spends-same_values look f (value.Builtin b) (value.Builtin c) k0 = search spends depth 14
spends-same_values look f (value.Ref h a) (value.Ref k b) k0 = search (spends, spends-same_cells) depth 14
spends-same_values look f _ _ k0 = search spends depth 14

pub spends-same : (look : (Value → Option Cell)) (a1 : ℕ) (x : Value) (y : Value) → Spends (same look a1 x y)
unfolding same
spends-same look zero x y = search spends depth 14
spends-same look (suc levels) x y = let h1 : (z2 : Value) (z3 : Value) → Spends (same look levels z2 z3) = λ z2 z3. spends-same look levels z2 z3 in search (spends, spends-same_values, h1) depth 14

pub spends-order_places : (f : (ℕ → Spend Bool)) (g : (ℕ → Spend Ordering)) (end : Ordering) (a3 : ℕ) (i : ℕ) → ((x0 : ℕ) → Spends (f x0)) → ((x0 : ℕ) → Spends (g x0)) → Spends (order_places f g end a3 i)
spends-order_places f g end zero i k0 k1 = search spends depth 14
spends-order_places f g end (suc n) i k0 k1 = let h1 : (z4 : ℕ) → Spends (order_places f g end n z4) = λ z4. spends-order_places f g end n z4 k0 k1 in search (spends, h1) depth 14

pub spends-order_pair : (f : (Value → Value → Spend Ordering)) (a1 : Option Value) (a2 : Option Value) → ((x0 : Value) (x1 : Value) → Spends (f x0 x1)) → Spends (order_pair f a1 a2)
spends-order_pair f (Some x) (Some y) k0 = search spends depth 14
spends-order_pair f _ _ k0 = search spends depth 14

pub spends-order_place : (f : (Value → Value → Spend Ordering)) (xs : List Value) (ys : List Value) (i : ℕ) → ((x0 : Value) (x1 : Value) → Spends (f x0 x1)) → Spends (order_place f xs ys i)
spends-order_place f xs ys i k0 = search (spends, spends-order_pair) depth 14

pub spends-order_items : (f : (Value → Value → Spend Bool)) (g : (Value → Value → Spend Ordering)) (xs : List Value) (ys : List Value) → ((x0 : Value) (x1 : Value) → Spends (f x0 x1)) → ((x0 : Value) (x1 : Value) → Spends (g x0 x1)) → Spends (order_items f g xs ys)
spends-order_items f g xs ys k0 k1 = search (spends, spends-same_place, spends-order_places, spends-order_place) depth 14

pub spends-order_cells : (f : (Value → Value → Spend Bool)) (g : (Value → Value → Spend Ordering)) (a2 : Option Cell) (a3 : Option Cell) → ((x0 : Value) (x1 : Value) → Spends (f x0 x1)) → ((x0 : Value) (x1 : Value) → Spends (g x0 x1)) → Spends (order_cells f g a2 a3)
spends-order_cells f g (Some (cell.Text t)) (Some (cell.Text u)) k0 k1 = search spends depth 14
spends-order_cells f g (Some (cell.Tuple xs)) (Some (cell.Tuple ys)) k0 k1 = search (spends, spends-order_items) depth 14
spends-order_cells f g (Some (cell.List xs)) (Some (cell.List ys)) k0 k1 = search (spends, spends-order_items) depth 14
spends-order_cells f g _ _ k0 k1 = search spends depth 14

pub spends-order_values : (look : (Value → Option Cell)) (f : (Value → Value → Spend Bool)) (g : (Value → Value → Spend Ordering)) (a3 : Value) (a4 : Value) → ((x0 : Value) (x1 : Value) → Spends (f x0 x1)) → ((x0 : Value) (x1 : Value) → Spends (g x0 x1)) → Spends (order_values look f g a3 a4)
spends-order_values look f g (value.Bool b) (value.Bool c) k0 k1 = search spends depth 14
spends-order_values look f g (value.Int m) (value.Int n) k0 k1 = search spends depth 14
spends-order_values look f g (value.Ref h a) (value.Ref k b) k0 k1 = search (spends, spends-order_cells) depth 14
spends-order_values look f g _ _ k0 k1 = search spends depth 14

pub spends-order : (look : (Value → Option Cell)) (a1 : ℕ) (x : Value) (y : Value) → Spends (order look a1 x y)
unfolding order
spends-order look zero x y = search spends depth 14
spends-order look (suc levels) x y = let h1 : (z2 : Value) (z3 : Value) → Spends (order look levels z2 z3) = λ z2 z3. spends-order look levels z2 z3 in search (spends, spends-same, spends-order_values, h1) depth 14

pub spends-say : (t : List ℕ) (a1 : List ℕ) → Spends (say t a1)
spends-say t y1 = search spends depth 14

pub spends-say_parts : (ts : List (List ℕ)) (a1 : List ℕ) → Spends (say_parts ts a1)
spends-say_parts ts y1 = search spends depth 14

pub spends-then_say : (a : (List ℕ → Spend (List ℕ))) (b : (List ℕ → Spend (List ℕ))) (a2 : List ℕ) → ((x0 : List ℕ) → Spends (a x0)) → ((x0 : List ℕ) → Spends (b x0)) → Spends (then_say a b a2)
spends-then_say a b y2 k0 k1 = search spends depth 14

pub spends-all_said : (f : (ℕ → (List ℕ → Spend (List ℕ)))) (a1 : ℕ) (i : ℕ) (a3 : List ℕ) → ((x0 : ℕ) (x1 : List ℕ) → Spends (f x0 x1)) → Spends (all_said f a1 i a3)
spends-all_said f zero i y3 k0 = search spends depth 14
spends-all_said f (suc n) i y3 k0 = let h1 : (z2 : ℕ) (z3 : List ℕ) → Spends (all_said f n z2 z3) = λ z2 z3. spends-all_said f n z2 z3 k0 in search (spends, spends-then_say, h1) depth 14

pub spends-say_item : (f : (Value → (List ℕ → Spend (List ℕ)))) (a1 : Option Value) (a2 : List ℕ) → ((x0 : Value) (x1 : List ℕ) → Spends (f x0 x1)) → Spends (say_item f a1 a2)
spends-say_item f (Some x) y2 k0 = search spends depth 14
spends-say_item f None y2 k0 = search (spends, spends-say) depth 14

pub spends-say_place : (f : (Value → (List ℕ → Spend (List ℕ)))) (xs : List Value) (i : ℕ) (a3 : List ℕ) → ((x0 : Value) (x1 : List ℕ) → Spends (f x0 x1)) → Spends (say_place f xs i a3)
spends-say_place f xs i y3 k0 = search (spends, spends-say, spends-then_say, spends-say_item) depth 14

pub spends-say_items : (f : (Value → (List ℕ → Spend (List ℕ)))) (xs : List Value) (a2 : List ℕ) → ((x0 : Value) (x1 : List ℕ) → Spends (f x0 x1)) → Spends (say_items f xs a2)
spends-say_items f xs y2 k0 = search (spends, spends-all_said, spends-say_place) depth 14

pub spends-say_pair : (f : (Value → (List ℕ → Spend (List ℕ)))) (a1 : Option (Value × Value)) (a2 : List ℕ) → ((x0 : Value) (x1 : List ℕ) → Spends (f x0 x1)) → Spends (say_pair f a1 a2)
spends-say_pair f (Some e) y2 k0 = search (spends, spends-say, spends-then_say) depth 14
spends-say_pair f None y2 k0 = search (spends, spends-say) depth 14

pub spends-say_entry : (f : (Value → (List ℕ → Spend (List ℕ)))) (es : List (Value × Value)) (i : ℕ) (a3 : List ℕ) → ((x0 : Value) (x1 : List ℕ) → Spends (f x0 x1)) → Spends (say_entry f es i a3)
spends-say_entry f es i y3 k0 = search (spends, spends-say, spends-then_say, spends-say_pair) depth 14

pub spends-say_entries : (f : (Value → (List ℕ → Spend (List ℕ)))) (es : List (Value × Value)) (a2 : List ℕ) → ((x0 : Value) (x1 : List ℕ) → Spends (f x0 x1)) → Spends (say_entries f es a2)
spends-say_entries f es y2 k0 = search (spends, spends-all_said, spends-say_entry) depth 14

pub spends-say_element : (f : (Value → (List ℕ → Spend (List ℕ)))) (a1 : Option (Value × Value)) (a2 : List ℕ) → ((x0 : Value) (x1 : List ℕ) → Spends (f x0 x1)) → Spends (say_element f a1 a2)
spends-say_element f (Some e) y2 k0 = search spends depth 14
spends-say_element f None y2 k0 = search (spends, spends-say) depth 14

pub spends-say_nth : (f : (Value → (List ℕ → Spend (List ℕ)))) (es : List (Value × Value)) (i : ℕ) (a3 : List ℕ) → ((x0 : Value) (x1 : List ℕ) → Spends (f x0 x1)) → Spends (say_nth f es i a3)
spends-say_nth f es i y3 k0 = search (spends, spends-say, spends-then_say, spends-say_element) depth 14

pub spends-say_elements : (f : (Value → (List ℕ → Spend (List ℕ)))) (es : List (Value × Value)) (a2 : List ℕ) → ((x0 : Value) (x1 : List ℕ) → Spends (f x0 x1)) → Spends (say_elements f es a2)
spends-say_elements f es y2 k0 = search (spends, spends-all_said, spends-say_nth) depth 14

pub spends-say_set : (f : (Value → (List ℕ → Spend (List ℕ)))) (es : List (Value × Value)) (a2 : List ℕ) → ((x0 : Value) (x1 : List ℕ) → Spends (f x0 x1)) → Spends (say_set f es a2)
spends-say_set f es y2 k0 = search (spends, spends-say, spends-then_say, spends-say_elements) depth 14

pub spends-say_tuple : (f : (Value → (List ℕ → Spend (List ℕ)))) (xs : List Value) (a2 : List ℕ) → ((x0 : Value) (x1 : List ℕ) → Spends (f x0 x1)) → Spends (say_tuple f xs a2)
spends-say_tuple f xs y2 k0 = search (spends, spends-say, spends-then_say, spends-say_items) depth 14

pub spends-say_named : (f : (Value → (List ℕ → Spend (List ℕ)))) (a1 : Option (List ℕ × Value)) (a2 : List ℕ) → ((x0 : Value) (x1 : List ℕ) → Spends (f x0 x1)) → Spends (say_named f a1 a2)
spends-say_named f (Some e) y2 k0 = search (spends, spends-say, spends-then_say) depth 14
spends-say_named f None y2 k0 = search (spends, spends-say) depth 14

pub spends-say_field : (f : (Value → (List ℕ → Spend (List ℕ)))) (fs : List (List ℕ × Value)) (i : ℕ) (a3 : List ℕ) → ((x0 : Value) (x1 : List ℕ) → Spends (f x0 x1)) → Spends (say_field f fs i a3)
spends-say_field f fs i y3 k0 = search (spends, spends-say, spends-then_say, spends-say_named) depth 14

pub spends-say_fields : (f : (Value → (List ℕ → Spend (List ℕ)))) (fs : List (List ℕ × Value)) (a2 : List ℕ) → ((x0 : Value) (x1 : List ℕ) → Spends (f x0 x1)) → Spends (say_fields f fs a2)
spends-say_fields f fs y2 k0 = search (spends, spends-all_said, spends-say_field) depth 14

pub spends-say_struct : (f : (Value → (List ℕ → Spend (List ℕ)))) (fs : List (List ℕ × Value)) (a2 : List ℕ) → ((x0 : Value) (x1 : List ℕ) → Spends (f x0 x1)) → Spends (say_struct f fs a2)
spends-say_struct f fs y2 k0 = search (spends, spends-say, spends-then_say, spends-say_fields) depth 14

pub spends-say_new_list : (f : (Value → (List ℕ → Spend (List ℕ)))) (xs : List Value) (a2 : List ℕ) → ((x0 : Value) (x1 : List ℕ) → Spends (f x0 x1)) → Spends (say_new_list f xs a2)
spends-say_new_list f xs y2 k0 = search (spends, spends-say, spends-then_say, spends-say_items) depth 14

pub spends-say_new_dict : (f : (Value → (List ℕ → Spend (List ℕ)))) (es : List (Value × Value)) (a2 : List ℕ) → ((x0 : Value) (x1 : List ℕ) → Spends (f x0 x1)) → Spends (say_new_dict f es a2)
spends-say_new_dict f es y2 k0 = search (spends, spends-say, spends-then_say, spends-say_entries) depth 14

pub spends-say_list : (f : (List Value → Value → (List ℕ → Spend (List ℕ)))) (path : List Value) (v : Value) (xs : List Value) (a4 : List ℕ) → ((x0 : List Value) (x1 : Value) (x2 : List ℕ) → Spends (f x0 x1 x2)) → Spends (say_list f path v xs a4)
spends-say_list f path v xs y4 k0 = search (spends, spends-say, spends-say_new_list) depth 14

pub spends-say_dict : (f : (List Value → Value → (List ℕ → Spend (List ℕ)))) (path : List Value) (v : Value) (es : List (Value × Value)) (a4 : List ℕ) → ((x0 : List Value) (x1 : Value) (x2 : List ℕ) → Spends (f x0 x1 x2)) → Spends (say_dict f path v es a4)
spends-say_dict f path v es y4 k0 = search (spends, spends-say, spends-say_new_dict) depth 14

pub spends-say_cell : (f : (List Value → Value → (List ℕ → Spend (List ℕ)))) (path : List Value) (v : Value) (a3 : Option Cell) (a4 : List ℕ) → ((x0 : List Value) (x1 : Value) (x2 : List ℕ) → Spends (f x0 x1 x2)) → Spends (say_cell f path v a3 a4)
spends-say_cell f path v (Some (cell.Text t)) y4 k0 = search (spends, spends-say) depth 14
spends-say_cell f path v (Some (cell.Range r)) y4 k0 = search spends depth 14
spends-say_cell f path v (Some (cell.Tuple xs)) y4 k0 = search (spends, spends-say_tuple) depth 14
spends-say_cell f path v (Some (cell.List xs)) y4 k0 = search (spends, spends-say_list) depth 14
spends-say_cell f path v (Some (cell.Dict es)) y4 k0 = search (spends, spends-say_dict) depth 14
spends-say_cell f path v (Some (cell.Func g)) y4 k0 = search (spends, spends-say_parts) depth 14
spends-say_cell f path v (Some (cell.Frame g)) y4 k0 = search (spends, spends-say) depth 14
spends-say_cell f path v (Some (cell.Bound m x)) y4 k0 = search (spends, spends-say_parts) depth 14
spends-say_cell f path v (Some (cell.Struct fs)) y4 k0 = search (spends, spends-say_struct) depth 14
spends-say_cell f path v (Some (cell.Set es)) y4 k0 = search (spends, spends-say_set) depth 14
spends-say_cell f path v None y4 k0 = search (spends, spends-say) depth 14

pub spends-say_value : (names : List (List ℕ)) (look : (Value → Option Cell)) (f : (List Value → Value → (List ℕ → Spend (List ℕ)))) (path : List Value) (a3 : Value) (a4 : List ℕ) → ((x0 : List Value) (x1 : Value) (x2 : List ℕ) → Spends (f x0 x1 x2)) → Spends (say_value names look f path a3 a4)
spends-say_value names look f path value.NoneValue y4 k0 = search (spends, spends-say) depth 14
spends-say_value names look f path (value.Bool b) y4 k0 = search (spends, spends-say) depth 14
spends-say_value names look f path (value.Int n) y4 k0 = search (spends, spends-say) depth 14
spends-say_value names look f path (value.Builtin b) y4 k0 = search (spends, spends-say_parts) depth 14
spends-say_value names look f path (value.Ref h a) y4 k0 = search (spends, spends-say_cell) depth 14

pub spends-text : (names : List (List ℕ)) (look : (Value → Option Cell)) (a1 : ℕ) (path : List Value) (v : Value) (a4 : List ℕ) → Spends (text names look a1 path v a4)
unfolding text
spends-text names look zero path v y4 = search spends depth 14
spends-text names look (suc levels) path v y4 = let h1 : (z2 : List Value) (z3 : Value) (z4 : List ℕ) → Spends (text names look levels z2 z3 z4) = λ z2 z3 z4. spends-text names look levels z2 z3 z4 in search (spends, spends-say_value, h1) depth 14

pub spends-put_place : (l : Layout) (n : ℕ) (f : (Value → (List ℕ → Spend (List ℕ)))) (xs : List Value) (i : ℕ) (a3 : List ℕ) → ((x0 : Value) (x1 : List ℕ) → Spends (f x0 x1)) → Spends (put_place l n f xs i a3)
spends-put_place l n f xs i y3 k0 = search (spends, spends-say, spends-then_say, spends-say_item) depth 14

pub spends-put_items : (l : Layout) (n : ℕ) (f : (Value → (List ℕ → Spend (List ℕ)))) (xs : List Value) (a2 : List ℕ) → ((x0 : Value) (x1 : List ℕ) → Spends (f x0 x1)) → Spends (put_items l n f xs a2)
spends-put_items l n f xs y2 k0 = search (spends, spends-all_said, spends-put_place) depth 14

pub spends-put_array : (l : Layout) (n : ℕ) (f : (Value → (List ℕ → Spend (List ℕ)))) (xs : List Value) (a2 : List ℕ) → ((x0 : Value) (x1 : List ℕ) → Spends (f x0 x1)) → Spends (put_array l n f xs a2)
spends-put_array l n f xs y2 k0 = search (spends, spends-say, spends-then_say, spends-put_items) depth 14

pub spends-put_nth : (l : Layout) (n : ℕ) (f : (Value → (List ℕ → Spend (List ℕ)))) (es : List (Value × Value)) (i : ℕ) (a3 : List ℕ) → ((x0 : Value) (x1 : List ℕ) → Spends (f x0 x1)) → Spends (put_nth l n f es i a3)
spends-put_nth l n f es i y3 k0 = search (spends, spends-say, spends-then_say, spends-say_element) depth 14

pub spends-put_elements : (l : Layout) (n : ℕ) (f : (Value → (List ℕ → Spend (List ℕ)))) (es : List (Value × Value)) (a2 : List ℕ) → ((x0 : Value) (x1 : List ℕ) → Spends (f x0 x1)) → Spends (put_elements l n f es a2)
spends-put_elements l n f es y2 k0 = search (spends, spends-all_said, spends-put_nth) depth 14

pub spends-put_set : (l : Layout) (n : ℕ) (f : (Value → (List ℕ → Spend (List ℕ)))) (es : List (Value × Value)) (a2 : List ℕ) → ((x0 : Value) (x1 : List ℕ) → Spends (f x0 x1)) → Spends (put_set l n f es a2)
spends-put_set l n f es y2 k0 = search (spends, spends-say, spends-then_say, spends-put_elements) depth 14

pub spends-put_named : (l : Layout) (f : (Value → (List ℕ → Spend (List ℕ)))) (a1 : Option (List ℕ × Value)) (a2 : List ℕ) → ((x0 : Value) (x1 : List ℕ) → Spends (f x0 x1)) → Spends (put_named l f a1 a2)
spends-put_named l f (Some e) y2 k0 = search (spends, spends-say, spends-then_say) depth 14
spends-put_named l f None y2 k0 = search (spends, spends-say) depth 14

pub spends-put_member : (l : Layout) (n : ℕ) (f : (Value → (List ℕ → Spend (List ℕ)))) (fs : Fields) (i : ℕ) (a3 : List ℕ) → ((x0 : Value) (x1 : List ℕ) → Spends (f x0 x1)) → Spends (put_member l n f fs i a3)
spends-put_member l n f fs i y3 k0 = search (spends, spends-say, spends-then_say, spends-put_named) depth 14

pub spends-put_members : (l : Layout) (n : ℕ) (f : (Value → (List ℕ → Spend (List ℕ)))) (fs : Fields) (a2 : List ℕ) → ((x0 : Value) (x1 : List ℕ) → Spends (f x0 x1)) → Spends (put_members l n f fs a2)
spends-put_members l n f fs y2 k0 = search (spends, spends-all_said, spends-put_member) depth 14

pub spends-put_object : (l : Layout) (n : ℕ) (f : (Value → (List ℕ → Spend (List ℕ)))) (fs : Fields) (a2 : List ℕ) → ((x0 : Value) (x1 : List ℕ) → Spends (f x0 x1)) → Spends (put_object l n f fs a2)
spends-put_object l n f fs y2 k0 = search (spends, spends-say, spends-then_say, spends-put_members) depth 14

pub spends-put_dict : (l : Layout) (n : ℕ) (f : (Value → (List ℕ → Spend (List ℕ)))) (a3 : Option Fields) (a4 : List ℕ) → ((x0 : Value) (x1 : List ℕ) → Spends (f x0 x1)) → Spends (put_dict l n f a3 a4)
spends-put_dict l n f (Some fs) y4 k0 = search (spends, spends-put_object) depth 14
spends-put_dict l n f None y4 k0 = search spends depth 14

pub spends-put_cell : (look : (Value → Option Cell)) (l : Layout) (n : ℕ) (f : (ℕ → Value → (List ℕ → Spend (List ℕ)))) (a3 : Option Cell) (a4 : List ℕ) → ((x0 : ℕ) (x1 : Value) (x2 : List ℕ) → Spends (f x0 x1 x2)) → Spends (put_cell look l n f a3 a4)
spends-put_cell look l n f (Some (cell.Text t)) y4 k0 = search (spends, spends-say) depth 14
spends-put_cell look l n f (Some (cell.Tuple xs)) y4 k0 = search (spends, spends-put_array) depth 14
spends-put_cell look l n f (Some (cell.List xs)) y4 k0 = search (spends, spends-put_array) depth 14
spends-put_cell look l n f (Some (cell.Dict es)) y4 k0 = search (spends, spends-put_dict) depth 14
spends-put_cell look l n f (Some (cell.Struct fs)) y4 k0 = search (spends, spends-put_object) depth 14
spends-put_cell look l n f (Some (cell.Set es)) y4 k0 = search (spends, spends-put_set) depth 14
spends-put_cell look l n f _ y4 k0 = search spends depth 14

pub spends-put_value : (look : (Value → Option Cell)) (l : Layout) (n : ℕ) (f : (ℕ → Value → (List ℕ → Spend (List ℕ)))) (a3 : Value) (a4 : List ℕ) → ((x0 : ℕ) (x1 : Value) (x2 : List ℕ) → Spends (f x0 x1 x2)) → Spends (put_value look l n f a3 a4)
spends-put_value look l n f value.NoneValue y4 k0 = search (spends, spends-say) depth 14
spends-put_value look l n f (value.Bool b) y4 k0 = search (spends, spends-say) depth 14
spends-put_value look l n f (value.Int z) y4 k0 = search (spends, spends-say) depth 14
spends-put_value look l n f (value.Builtin b) y4 k0 = search spends depth 14
spends-put_value look l n f (value.Ref h a) y4 k0 = search (spends, spends-put_cell) depth 14

pub spends-json : (look : (Value → Option Cell)) (l : Layout) (a1 : ℕ) (n : ℕ) (v : Value) (a4 : List ℕ) → Spends (json look l a1 n v a4)
unfolding json
spends-json look l zero n v y4 = search spends depth 14
spends-json look l (suc levels) n v y4 = let h1 : (z2 : ℕ) (z3 : Value) (z4 : List ℕ) → Spends (json look l levels z2 z3 z4) = λ z2 z3 z4. spends-json look l levels z2 z3 z4 in search (spends, spends-put_value, h1) depth 14

pub spends-bare : (levels : ℕ) (t : List ℕ) → Spends (bare levels t)
spends-bare zero t = search spends depth 14
spends-bare (suc levels) t = search spends depth 14
