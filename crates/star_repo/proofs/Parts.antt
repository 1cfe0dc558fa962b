-- The parts of a list that is cut into parts of one size.
use Rattle.std.proofs.Common.{◌≡◌, ◌++◌, ◌+◌, ◌*◌, ◌/◌, ◌%◌, ◌<◌, ◌≤◌, ℕ, zero, suc, List, add-one, add-zero, take, drop, ap, ◌∙◌, arith}
use Rattle.std.specs.Prelude.{min}
use Rattle.std.proofs.Math.Seq.{take-add}
use native.Mathlib.Nat.{mod-add-div, mod-lt, mul_comm, suc-mul}

pub take_parts : {X : Type 0} (k size : ℕ) (xs : List X) → take ((k + 1) * size) xs ≡ take (k * size) xs ++ take size (drop (k * size) xs)
take_parts k size xs = ap (λ n. take n xs) (ap (λ j. j * size) (add-one k) ∙ suc-mul k size) ∙ take-add (k * size) size xs

-- they hold the whole list
pub parts_hold : (n s : ℕ) → zero < s → n ≤ (n / s + min 1 (n % s)) * s
parts_hold n s positive = by (n % s) (mod-add-div n s) (mod-lt n positive)
  where
    by : (r : ℕ) → r + s * (n / s) ≡ n → r < s → n ≤ (n / s + min 1 r) * s
    by zero e low = let a : (n / s + min 1 zero) * s ≡ s * (n / s) = ap (λ j. j * s) (add-zero (n / s)) ∙ mul_comm (n / s) s in omega (arith, e, a)
    by (suc k) e low =
        let m : min 1 (suc k) ≡ 1 = omega arith in
        let a : (n / s + min 1 (suc k)) * s ≡ s * (n / s) + s = ap (λ j. (n / s + j) * s) m ∙ ap (λ j. j * s) (add-one (n / s)) ∙ suc-mul (n / s) s ∙ ap (λ j. j + s) (mul_comm (n / s) s) in
        omega (arith, e, a, low)
