-- The numbers that digits write.
use Rattle.std.proofs.Common.{◌≡◌, ℕ, ◌+◌, ◌-◌, ◌*◌, ◌^◌, ◌≤◌, ◌<◌, List, [], ◌∷◌, length, drop, get_or, add-one, refl, sym, ap, ◌∙◌, arith}
use Rattle.std.proofs.Math.Seq.{drop-cons}
use Rattle.star_meaning.specs.Spelling.{number_from}
use Rattle.star_builtin.specs.Parts.{capped}

-- more digits make no smaller number
number_grows : (n : ℕ) (bs : List ℕ) → n ≤ number_from n bs
number_grows n [] = omega arith
number_grows n (b ∷ bs) = let h = number_grows (n * 10 + (b - 48)) bs in omega arith

number_capped : (n : ℕ) (bs : List ℕ) → 2 ^ 64 ≤ n → 2 ^ 64 ≡ capped (number_from n bs)
number_capped n bs h = let k = number_grows n bs in omega arith

pub number_small : (n : ℕ) → n < 2 ^ 64 → capped n ≡ n
number_small n h = omega arith

number_next : (n i : ℕ) (bs : List ℕ) → i < length bs → number_from n (drop i bs) ≡ number_from (n * 10 + (get_or bs i 0 - 48)) (drop (i + 1) bs)
number_next n i bs h = rw (add-one, drop-cons bs i 0) refl

-- a number that has grown too large stays so
pub number_over : (n i : ℕ) (bs : List ℕ) → i < length bs → number_from n (drop i bs) ≡ number_from 0 bs → 2 ^ 64 ≤ n * 10 + (get_or bs i 0 - 48) → 2 ^ 64 ≡ capped (number_from 0 bs)
number_over n i bs h e k = number_capped (n * 10 + (get_or bs i 0 - 48)) (drop (i + 1) bs) k ∙ ap capped (sym (number_next n i bs h) ∙ e)
