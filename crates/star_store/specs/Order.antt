-- The order of values, over stores that do not change, by the levels and the steps that are left.
use Rattle.std.specs.Prelude.{ℕ, zero, suc, ◌+◌, min, Bool, true, false, List, length, Option, Some, slice_get, if◌then◌else◌}
use Rattle.std.specs.Ordering.{int_cmp, nat_cmp}
use Rattle.std.specs.declared.cmp.Ordering.{Ordering}
use Rattle.std.specs.declared.cmp.Ordering.TheVariants.{Less, Equal, Greater}
use Rattle.std.specs.Cmp.Lexicographic.{slice_cmp}
use Rattle.star_store.specs.declared.values.Value.{Value}
use Rattle.star_store.specs.declared.values.Value.TheVariants as value
use Rattle.star_store.specs.declared.values.Cell.{Cell}
use Rattle.star_store.specs.declared.values.Cell.TheVariants as cell
use Rattle.star_store.specs.declared.fault.StoreFault.TheVariants.{BadType, Deep}
use Rattle.star_store.specs.Spend.{Spend, Lacks, answer, refuse, spend_then, visited}
use Rattle.star_store.specs.Equal.{same, same_place}

-- False comes before True
abbrev pub bool_order : Bool → Bool → Ordering
bool_order false true = Less
bool_order true false = Greater
bool_order _ _ = Equal

-- a number of pairs of items, from the i-th on: the first unequal one decides, else the end does
abbrev pub order_places : (ℕ → Spend Bool) → (ℕ → Spend Ordering) → Ordering → ℕ → ℕ → Spend Ordering
order_places f g end zero i = answer end
order_places f g end (suc n) i = λ left. spend_then (f i left) (λ b. if b then order_places f g end n (i + 1) else g i)

-- a pair of values, if both are there
abbrev pub order_pair : (Value → Value → Spend Ordering) → Option Value → Option Value → Spend Ordering
order_pair f (Some x) (Some y) = f x y
order_pair f _ _ = answer Equal

-- the items of two rows at a place
abbrev pub order_place : (Value → Value → Spend Ordering) → List Value → List Value → ℕ → Spend Ordering
order_place f xs ys i = order_pair f (slice_get xs i) (slice_get ys i)

-- rows of items: the first pair that is not equal decides, else their lengths do
abbrev pub order_items : (Value → Value → Spend Bool) → (Value → Value → Spend Ordering) → List Value → List Value
    → Spend Ordering
order_items f g xs ys =
    order_places (same_place f xs ys) (order_place g xs ys) (nat_cmp (length xs) (length ys))
    (min (length xs) (length ys)) 0

-- strings by their bytes; two lists, or two tuples
abbrev pub order_cells : (Value → Value → Spend Bool) → (Value → Value → Spend Ordering) → Option Cell → Option Cell
    → Spend Ordering
order_cells f g (Some (cell.Text t)) (Some (cell.Text u)) = answer (slice_cmp nat_cmp t u)
order_cells f g (Some (cell.Tuple xs)) (Some (cell.Tuple ys)) = order_items f g xs ys
order_cells f g (Some (cell.List xs)) (Some (cell.List ys)) = order_items f g xs ys
order_cells f g _ _ = refuse BadType

-- ints, bools, strings, lists and tuples have an order, each among its own type
abbrev pub order_values : (Value → Option Cell) → (Value → Value → Spend Bool) → (Value → Value → Spend Ordering)
    → Value → Value → Spend Ordering
order_values look f g (value.Bool b) (value.Bool c) = answer (bool_order b c)
order_values look f g (value.Int m) (value.Int n) = answer (int_cmp m n)
order_values look f g (value.Ref h a) (value.Ref k b) = order_cells f g (look (value.Ref h a)) (look (value.Ref k b))
order_values look f g _ _ = refuse BadType

-- the order of two values, if this many levels may be opened: a pair opens one, and then pays its visit
unfoldable pub order : (Value → Option Cell) → ℕ → Value → Value → Spend Ordering
order look zero x y = λ n. Lacks Deep n
order look (suc levels) x y = visited (order_values look (same look levels) (order look levels) x y)

-- two rows of items, if this many levels may be opened in them
abbrev pub ordered_items : (Value → Option Cell) → ℕ → List Value → List Value → Spend Ordering
ordered_items look levels xs ys = order_items (same look levels) (order look levels) xs ys
