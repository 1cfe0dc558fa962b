-- Shifts: by a count that is not below 0, and far ones.
use Rattle.std.proofs.Common.{◌≡◌, ℕ, ◌/◌, ◌^◌, ◌<◌, ◌≤◌, ℤ, pos, negsuc, ◌*ℤ◌, ◌<ℤ◌, unsigned_abs, FitsSigned, w64, refl, ap, sym, ◌∙◌, arith}
use Rattle.std.specs.Int.{int_shr}
use Rattle.std.proofs.lemmas.Int.{ints}
use Rattle.std.proofs.Math.Nat.{div-eq_of_lt, pow-le-pow_right}
use Rattle.star_store.specs.Arithmetic.{floored_by}
use Rattle.star_meaning.specs.declared.fault.FaultCode.TheVariants.{BadValue}
use Rattle.star_meaning.specs.Run.{fail}
use Rattle.star_meaning.specs.Values.{new_int}
use Rattle.star_meaning.specs.Operators.{shift_left, shift_right}

pub left_up : (line : ℕ) (x y : ℤ) → (y <ℤ pos 0 → ⊥) → shift_left line x y ≡ new_int line (x *ℤ pos (2 ^ unsigned_abs y))
left_up line x (pos n) h = refl
left_up line x (negsuc n) h = absurd (h (omega (arith, ints)))

pub left_below : (line : ℕ) (x y : ℤ) → y <ℤ pos 0 → shift_left line x y ≡ fail BadValue line
left_below line x (pos n) h = absurd (omega (arith, ints))
left_below line x (negsuc n) h = refl

pub right_up : (line : ℕ) (x y : ℤ) → (y <ℤ pos 0 → ⊥) → shift_right line x y ≡ new_int line (floored_by x (2 ^ unsigned_abs y))
right_up line x (pos n) h = refl
right_up line x (negsuc n) h = absurd (h (omega (arith, ints)))

pub right_below : (line : ℕ) (x y : ℤ) → y <ℤ pos 0 → shift_right line x y ≡ fail BadValue line
right_below line x (pos n) h = absurd (omega (arith, ints))
right_below line x (negsuc n) h = refl

pub shifted_right : (x : ℤ) (n : ℕ) → int_shr x n ≡ floored_by x (2 ^ n)
shifted_right (pos a) n = refl
shifted_right (negsuc a) n = refl

under : (a n : ℕ) → a < 2 ^ 63 → 63 ≤ n → a / 2 ^ 63 ≡ a / 2 ^ n
under a n h k =
    let p : 2 ^ 63 ≤ 2 ^ n = pow-le-pow_right {n = 2} (omega arith) k in
    let q : a < 2 ^ n = omega arith in
    div-eq_of_lt h ∙ sym (div-eq_of_lt q)

pub halved_far : (x : ℤ) (n : ℕ) → FitsSigned w64 x → 63 ≤ n → int_shr x 63 ≡ floored_by x (2 ^ n)
halved_far (pos a) n f h = ap pos (under a n (omega (arith, ints)) h)
halved_far (negsuc a) n f h = ap negsuc (under a n (omega (arith, ints)) h)
