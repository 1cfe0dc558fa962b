-- Quotients and remainders.
use Rattle.std.specs.Prelude.{◌≡◌, ◌≢◌, ◌⊎◌, ℤ, pos, ◌+ℤ◌, ◌*ℤ◌, ◌<ℤ◌, ◌≤ℤ◌}
use Rattle.star_store.specs.Arithmetic.{floored, left_over}

-- the ints between 0 and a divisor, above 0 or below. 0 is included, and the divisor is not
abbrev pub IsRemainder : ℤ → ℤ → Type 0
IsRemainder r y = ((pos 0 ≤ℤ r) × (r <ℤ y)) ⊎ ((y <ℤ r) × (r ≤ℤ pos 0))

-- The law: an int is its quotient times the divisor, plus its remainder, and the remainder is between 0 and the
-- divisor.
abbrev pub QuotientAndRemainder : Type 0
QuotientAndRemainder = (x y : ℤ) → y ≢ pos 0 → (x ≡ floored x y *ℤ y +ℤ left_over x y) × IsRemainder (left_over x y) y

-- The law: no other quotient and remainder do so.
abbrev pub OneQuotient : Type 0
OneQuotient = (x y q r : ℤ) → y ≢ pos 0 → x ≡ q *ℤ y +ℤ r → IsRemainder r y → (q ≡ floored x y) × (r ≡ left_over x y)
