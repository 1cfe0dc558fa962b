-- The numbers that digits of a base write.
use Rattle.std.proofs.Common.{◌≡◌, ℕ, zero, suc, ◌+◌, ◌*◌, ◌^◌, ◌≤◌, ◌<◌, nat_lt, true, List, [], ◌∷◌, length, drop, get_or, pos, neg_ℤ, add-one, refl, sym, ap, ◌∙◌, arith}
use Rattle.std.proofs.Math.Seq.{drop-cons}
use Rattle.std.proofs.lemmas.Bool.Decides.{nat_tests}
use Rattle.std.specs.Char.{digit_value, is_digit}
use Rattle.std.specs.List.{list_all}
use Rattle.star_strings.specs.Ints.{after_zeros, capped, held_int, is_zero, number_from}

-- a digit of any base after a number makes no smaller one
next_grows : (base n d : ℕ) → 1 ≤ base → n ≤ n * base + d
next_grows zero n d h = absurd (omega arith)
next_grows (suc base) n d h = grind arith

-- more digits make no smaller number
number_grows : (base n : ℕ) (bs : List ℕ) → 1 ≤ base → n ≤ number_from base n bs
number_grows base n [] h = omega arith
number_grows base n (b ∷ bs) h =
    let g = number_grows base (n * base + digit_value b) bs h in
    let k = next_grows base n (digit_value b) h in
    omega arith

number_capped : (base n : ℕ) (bs : List ℕ) → 1 ≤ base → 2 ^ 64 ≤ n → 2 ^ 64 ≡ capped (number_from base n bs)
number_capped base n bs b h = let k = number_grows base n bs b in omega arith

pub number_small : (n : ℕ) → n < 2 ^ 64 → capped n ≡ n
number_small n h = omega arith

number_next : (base n i : ℕ) (bs : List ℕ) → i < length bs → number_from base n (drop i bs) ≡ number_from base (n * base + digit_value (get_or bs i 0)) (drop (i + 1) bs)
number_next base n i bs h = rw (add-one, drop-cons bs i 0) refl

-- a number that has grown too large stays so
pub number_over : (base n i : ℕ) (bs : List ℕ) → 1 ≤ base → i < length bs → number_from base n (drop i bs) ≡ number_from base 0 bs → 2 ^ 64 ≤ n * base + digit_value (get_or bs i 0) → 2 ^ 64 ≡ capped (number_from base 0 bs)
number_over base n i bs b h e k = number_capped base (n * base + digit_value (get_or bs i 0)) (drop (i + 1) bs) b k ∙ ap capped (sym (number_next base n i bs h) ∙ e)

-- a zero is a digit of any base
pub above_none : (base : ℕ) → 1 ≤ base → nat_lt 0 base ≡ true
above_none base h = grind (arith, nat_tests)

-- without eight zeros the same is written
pub digits_past : (base : ℕ) (bs rest : List ℕ) → 1 ≤ base → bs ≡ after_zeros rest → list_all (λ d. is_digit d base) rest ≡ list_all (λ d. is_digit d base) bs
digits_past base bs rest h e = let z = above_none base h in rw (e, z) refl

zero_step : (base : ℕ) (ts : List ℕ) → number_from base 0 ts ≡ number_from base 0 (48 ∷ ts)
zero_step base ts =
    let e : 0 ≡ 0 * base + 0 = grind arith in
    ap (λ n. number_from base n ts) e

pub number_past : (base : ℕ) (bs rest : List ℕ) → bs ≡ after_zeros rest → number_from base 0 rest ≡ number_from base 0 bs
number_past base bs rest e =
    let step : (ts : List ℕ) → number_from base 0 ts ≡ number_from base 0 (48 ∷ ts) = zero_step base in
    rw e (step rest ∙ step (48 ∷ rest) ∙ step (48 ∷ 48 ∷ rest) ∙ step (48 ∷ 48 ∷ 48 ∷ rest) ∙ step (48 ∷ 48 ∷ 48 ∷ 48 ∷ rest) ∙ step (48 ∷ 48 ∷ 48 ∷ 48 ∷ 48 ∷ rest) ∙ step (48 ∷ 48 ∷ 48 ∷ 48 ∷ 48 ∷ 48 ∷ rest) ∙ step (48 ∷ 48 ∷ 48 ∷ 48 ∷ 48 ∷ 48 ∷ 48 ∷ rest))

pub zeros_past : (bs rest : List ℕ) → bs ≡ after_zeros rest → list_all is_zero rest ≡ list_all is_zero bs
zeros_past bs rest e = rw e refl

-- an int below 0, held
pub held_below : (n : ℕ) → held_int (neg_ℤ (pos n)) ≡ neg_ℤ (pos (capped n))
held_below zero = refl
held_below (suc n) = refl
