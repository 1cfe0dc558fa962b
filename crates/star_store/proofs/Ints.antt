-- Laws of the arithmetic of ints.
use Rattle.std.proofs.Common.{◌≡◌, ◌≢◌, ℕ, zero, suc, ◌*◌, ◌<◌, ◌≤◌, ◌^◌, ℤ, pos, negsuc, neg_ℤ, ◌*ℤ◌, ◌<ℤ◌, false, unsigned_abs, refl, arith}
use Rattle.std.specs.Int.{int_div_euclid, int_rem_euclid}
use Rattle.std.proofs.Math.Pow.{pow-lt}
use Rattle.std.proofs.lemmas.Bool.{le-ltb}
use Rattle.std.proofs.lemmas.Nat.{mul-le}
use Rattle.std.proofs.lemmas.Int.{ints}
use Rattle.star_store.specs.Arithmetic.{fits, floored, left_by, left_over}

-- by a divisor above 0, the quotient whose remainder is not negative is rounded down
pub floored_up : (x y : ℤ) → pos 0 <ℤ y → int_div_euclid x y ≡ floored x y
floored_up (pos a) (pos b) h = refl
floored_up (negsuc a) (pos b) h = refl
floored_up x (negsuc b) h = absurd (omega (arith, ints))

pub left_up : (x y : ℤ) → pos 0 <ℤ y → int_rem_euclid x y ≡ left_over x y
left_up (pos a) (pos b) h = refl
left_up (negsuc a) (pos b) h = refl
left_up x (negsuc b) h = absurd (omega (arith, ints))

-- by a divisor below 0, both signs are turned
pub floored_down : (x y : ℤ) → (pos 0 <ℤ y → ⊥) → y ≢ pos 0 → int_div_euclid (neg_ℤ x) (neg_ℤ y) ≡ floored x y
floored_down x (pos zero) h k = absurd (k refl)
floored_down x (pos (suc b)) h k = absurd (h (omega (arith, ints)))
floored_down (pos zero) (negsuc b) h k = refl
floored_down (pos (suc a)) (negsuc b) h k = refl
floored_down (negsuc a) (negsuc b) h k = refl

pub left_below : (x y : ℤ) → (pos 0 <ℤ y → ⊥) → y ≢ pos 0 → left_over x y ≡ neg_ℤ (pos (left_by (neg_ℤ x) (unsigned_abs y)))
left_below x (pos zero) h k = absurd (k refl)
left_below x (pos (suc b)) h k = absurd (h (omega (arith, ints)))
left_below x (negsuc b) h k = refl

pub left_turned : (x y : ℤ) → y <ℤ pos 0 → int_rem_euclid (neg_ℤ x) (neg_ℤ y) ≡ pos (left_by (neg_ℤ x) (unsigned_abs y))
left_turned x (pos b) h = absurd (omega (arith, ints))
left_turned (pos zero) (negsuc b) h = refl
left_turned (pos (suc a)) (negsuc b) h = refl
left_turned (negsuc a) (negsuc b) h = refl

pub power_fits : (n : ℕ) → n < 63 → 2 ^ n < 2 ^ 63
power_fits n h = pow-lt h

above_out : (k : ℕ) → 2 ^ 63 ≤ k → fits (pos k) ≡ false
above_out k h = le-ltb k (2 ^ 63) h

below_out : (k : ℕ) → 2 ^ 63 < k → fits (neg_ℤ (pos k)) ≡ false
below_out zero h = absurd (omega arith)
below_out (suc k) h = le-ltb k (2 ^ 63) (omega arith)

-- a number other than 0 is outside 64 bits when it is doubled 64 times
pub doubled_out : (x : ℤ) (n : ℕ) → x ≢ pos 0 → 63 < n → fits (x *ℤ pos (2 ^ n)) ≡ false
doubled_out (pos zero) n k h = absurd (k refl)
doubled_out (pos (suc a)) n k h = let p : 2 ^ 63 < 2 ^ n = pow-lt h in let q : 1 * 2 ^ n ≤ suc a * 2 ^ n = mul-le 1 (2 ^ n) (suc a) (2 ^ n) (omega arith) (omega arith) in above_out (suc a * 2 ^ n) (omega arith)
doubled_out (negsuc a) n k h = let p : 2 ^ 63 < 2 ^ n = pow-lt h in let q : 1 * 2 ^ n ≤ suc a * 2 ^ n = mul-le 1 (2 ^ n) (suc a) (2 ^ n) (omega arith) (omega arith) in below_out (suc a * 2 ^ n) (omega arith)

-- a number other than 0 and -1 is outside 64 bits when it is doubled 63 times
pub doubled_far : (x : ℤ) → x ≢ pos 0 → x ≢ negsuc 0 → fits (x *ℤ pos (2 ^ 63)) ≡ false
doubled_far (pos zero) k j = absurd (k refl)
doubled_far (pos (suc a)) k j = above_out (suc a * 2 ^ 63) (omega arith)
doubled_far (negsuc zero) k j = absurd (j refl)
doubled_far (negsuc (suc a)) k j = below_out (suc (suc a) * 2 ^ 63) (omega arith)
