-- The order at a number of levels, by the number below it.
use Rattle.std.proofs.Common.{◌≡◌, ℕ, zero, suc, ◌+◌, ◌-◌, if◌then◌else◌, ◌<◌, ◌≤◌, nat_lt, Bool, false, List, Option, Result, refl, ap, subst, sym, ◌∙◌, arith}
use Rattle.std.specs.declared.cmp.Ordering.{Ordering}
use Rattle.star_store.specs.declared.values.Value.{Value}
use Rattle.star_store.specs.declared.values.Cell.{Cell}
use Rattle.star_store.specs.declared.fault.StoreFault.{StoreFault}
use Rattle.star_store.specs.declared.fault.StoreFault.TheVariants.{Deep, Steps}
use Rattle.star_store.specs.Spend.{Spend, Spends, Lacks, spend_then, visited}
use Rattle.star_store.specs.Equal.{same}
use Rattle.star_store.specs.Order.{order, order_values, order_places, ordered_items}

pub order_at_none : (look : Value → Option Cell) (x y : Value) (n : ℕ) → order look 0 x y n ≡ Lacks Deep n
unfolding order
order_at_none look x y n = refl

pub order_at : (look : Value → Option Cell) (levels : ℕ) (x y : Value) (n : ℕ) → 0 < levels → order look levels x y n ≡ visited (order_values look (same look (levels - 1)) (order look (levels - 1)) x y) n
unfolding order
order_at look zero x y n h = absurd (omega arith)
order_at look (suc levels) x y n h = ap (λ k. visited (order_values look (same look k) (order look k) x y) n) (let e : levels ≡ suc levels - 1 = omega arith in e)

-- the order of two values whose visit was paid
pub order_paid : (look : Value → Option Cell) (levels : ℕ) (x y : Value) (n : ℕ) → 0 < levels → 1 ≤ n → order look levels x y n ≡ order_values look (same look (levels - 1)) (order look (levels - 1)) x y (n - 1)
order_paid look levels x y n deep paid =
    let rich : nat_lt n 1 ≡ false = grind arith in
    order_at look levels x y n deep ∙ ap (λ b. if b then Lacks Steps n else order_values look (same look (levels - 1)) (order look (levels - 1)) x y (n - 1)) rich

-- and the order of two rows is the order of their items
pub order_rows : (look : Value → Option Cell) (levels : ℕ) (x y : Value) (n : ℕ) (xs ys : List Value) (r : Result Ordering StoreFault) (left : ℕ) → 0 < levels → 1 ≤ n
    → Spends (ordered_items look (levels - 1) xs ys (n - 1)) r left
    → order_values look (same look (levels - 1)) (order look (levels - 1)) x y (n - 1) ≡ ordered_items look (levels - 1) xs ys (n - 1) → Spends (order look levels x y n) r left
order_rows look levels x y n xs ys r left deep paid h rows = subst (λ o. Spends o r left) (sym (order_paid look levels x y n deep paid ∙ rows)) h

order_places_more : (f : ℕ → Spend Bool) (g : ℕ → Spend Ordering) (end : Ordering) (n m i left : ℕ) → n ≡ m + 1 → order_places f g end n i left ≡ spend_then (f i left) (λ b. if b then order_places f g end m (i + 1) else g i)
order_places_more f g end zero m i left h = absurd (omega arith)
order_places_more f g end (suc n) m i left h = ap (λ k. spend_then (f i left) (λ b. if b then order_places f g end k (i + 1) else g i)) (let e : n ≡ m = omega arith in e)

pub order_places_next : (f : ℕ → Spend Bool) (g : ℕ → Spend Ordering) (end : Ordering) (n i left : ℕ) → i < n → order_places f g end (n - i) i left ≡ spend_then (f i left) (λ b. if b then order_places f g end (n - (i + 1)) (i + 1) else g i)
order_places_next f g end n i left h = order_places_more f g end (n - i) (n - (i + 1)) i left (omega arith)
