-- Quotients and remainders.
use Rattle.std.proofs.Common.{◌≡◌, ◌≢◌, inl, inr, ℕ, zero, suc, ◌<◌, ℤ, pos, negsuc, neg_ℤ, ◌+ℤ◌, ◌*ℤ◌, refl, ap, sym, ◌∙◌, arith}
use Rattle.std.proofs.Math.IntN.{*ℤ-negsuc}
use Rattle.std.proofs.lemmas.Nat.{div-add-mod', mod_below, same_from_place}
use Rattle.std.proofs.lemmas.Int.{ints}
use Rattle.star_store.specs.Arithmetic.{floored, floored_by, left_by, left_over}
use Rattle.star_laws.specs.Division.{IsRemainder}

-- by a divisor above 0

pub left_below : (x : ℤ) (n : ℕ) → 0 < n → left_by x n < n
left_below (pos a) n h = mod_below a n h
left_below (negsuc a) n h = omega arith

pub quotient_by : (x : ℤ) (n : ℕ) → 0 < n → x ≡ floored_by x n *ℤ pos n +ℤ pos (left_by x n)
quotient_by (pos a) n h = omega (arith, ints, div-add-mod' a n)
quotient_by (negsuc a) n h = omega (arith, ints, div-add-mod' a n, mod_below a n h)

-- at every divisor

pub quotient_and_remainder : (x y : ℤ) → y ≢ pos 0 → (x ≡ floored x y *ℤ y +ℤ left_over x y) × IsRemainder (left_over x y) y
quotient_and_remainder x (pos zero) h = absurd (h refl)
quotient_and_remainder x (pos (suc n)) h = (quotient_by x (suc n) (omega arith), inl (omega (arith, ints), omega (arith, ints, left_below x (suc n))))
quotient_and_remainder x (negsuc n) h =
    (omega (arith, ints, quotient_by (neg_ℤ x) (suc n), *ℤ-negsuc (floored_by (neg_ℤ x) (suc n)) n), inr (omega (arith, ints, left_below (neg_ℤ x) (suc n)), omega (arith, ints)))

-- no other one

one_by : (x q : ℤ) (n r : ℕ) → r < n → x ≡ q *ℤ pos n +ℤ pos r → (q ≡ floored_by x n) × (r ≡ left_by x n)
one_by x q n r h e = same q (floored_by x n) r (left_by x n) h (left_below x n (omega arith)) (sym e ∙ quotient_by x n (omega arith))
  where
    same : (p q : ℤ) (r s : ℕ) → r < n → s < n → p *ℤ pos n +ℤ pos r ≡ q *ℤ pos n +ℤ pos s → (p ≡ q) × (r ≡ s)
    same (pos a) (pos b) r s h k e = let w : (a ≡ b) × (r ≡ s) = same_from_place a r b s n h k (omega (arith, ints)) in (ap pos (w.0), w.1)
    same (pos a) (negsuc b) r s h k e = absurd (omega (arith, ints))
    same (negsuc a) (pos b) r s h k e = absurd (omega (arith, ints))
    same (negsuc a) (negsuc b) r s h k e = let w : (suc b ≡ suc a) × (r ≡ s) = same_from_place (suc b) r (suc a) s n h k (omega (arith, ints)) in (ap negsuc (omega arith), w.1)

pub one_quotient : (x y q r : ℤ) → y ≢ pos 0 → x ≡ q *ℤ y +ℤ r → IsRemainder r y → (q ≡ floored x y) × (r ≡ left_over x y)
one_quotient x (pos zero) q r h e k = absurd (h refl)
one_quotient x (pos (suc n)) q (pos r) h e k = let w : (q ≡ floored_by x (suc n)) × (r ≡ left_by x (suc n)) = one_by x q (suc n) r (omega (arith, ints)) e in (w.0, ap pos (w.1))
one_quotient x (pos (suc n)) q (negsuc r) h e k = absurd (omega (arith, ints))
one_quotient x (negsuc n) q (negsuc r) h e k =
    let w : (q ≡ floored_by (neg_ℤ x) (suc n)) × (suc r ≡ left_by (neg_ℤ x) (suc n)) = one_by (neg_ℤ x) q (suc n) (suc r) (omega (arith, ints)) (omega (arith, ints, *ℤ-negsuc q n)) in (w.0, ap (λ m. neg_ℤ (pos m)) (w.1))
one_quotient x (negsuc n) q (pos zero) h e k =
    let w : (q ≡ floored_by (neg_ℤ x) (suc n)) × (0 ≡ left_by (neg_ℤ x) (suc n)) = one_by (neg_ℤ x) q (suc n) 0 (omega arith) (omega (arith, ints, *ℤ-negsuc q n)) in (w.0, ap (λ m. neg_ℤ (pos m)) (w.1))
one_quotient x (negsuc n) q (pos (suc r)) h e k = absurd (omega (arith, ints))
