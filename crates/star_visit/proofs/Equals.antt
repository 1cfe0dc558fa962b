-- Equality at a number of levels, by the number below it.
use Rattle.std.proofs.Common.{◌≡◌, ℕ, zero, suc, ◌+◌, ◌-◌, if◌then◌else◌, ◌<◌, Bool, false, Option, refl, ap, arith}
use Rattle.star_store.specs.declared.values.Value.{Value}
use Rattle.star_store.specs.declared.values.Cell.{Cell}
use Rattle.star_store.specs.declared.fault.StoreFault.TheVariants.{Deep}
use Rattle.star_store.specs.Spend.{Spend, Lacks, answer, spend_then, visited, all_places}
use Rattle.star_store.specs.Equal.{same, same_values}

pub same_at_none : (look : Value → Option Cell) (x y : Value) (n : ℕ) → same look 0 x y n ≡ Lacks Deep n
unfolding same
same_at_none look x y n = refl

pub same_at : (look : Value → Option Cell) (levels : ℕ) (x y : Value) (n : ℕ) → 0 < levels → same look levels x y n ≡ visited (same_values look (same look (levels - 1)) x y) n
unfolding same
same_at look zero x y n h = absurd (omega arith)
same_at look (suc levels) x y n h = ap (λ k. visited (same_values look (same look k) x y) n) (let e : levels ≡ suc levels - 1 = omega arith in e)

all_places_more : (f : ℕ → Spend Bool) (n m i left : ℕ) → n ≡ m + 1 → all_places f n i left ≡ spend_then (f i left) (λ b. if b then all_places f m (i + 1) else answer false)
all_places_more f zero m i left h = absurd (omega arith)
all_places_more f (suc n) m i left h = ap (λ k. spend_then (f i left) (λ b. if b then all_places f k (i + 1) else answer false)) (let e : n ≡ m = omega arith in e)

pub all_places_next : (f : ℕ → Spend Bool) (n i left : ℕ) → i < n → all_places f (n - i) i left ≡ spend_then (f i left) (λ b. if b then all_places f (n - (i + 1)) (i + 1) else answer false)
all_places_next f n i left h = all_places_more f (n - i) (n - (i + 1)) i left (omega arith)
