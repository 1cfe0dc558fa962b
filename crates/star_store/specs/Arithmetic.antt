-- The arithmetic of ints: exact, and refused if the result is outside 64 bits.
use Rattle.std.specs.Prelude.{ℕ, suc, ◌-◌, ◌/◌, ◌%◌, ◌^◌, nat_lt, Bool, ℤ, pos, negsuc, neg_ℤ, if◌then◌else◌, Result, Ok, Err}
use Rattle.star_store.specs.declared.fault.StoreFault.{StoreFault}
use Rattle.star_store.specs.declared.fault.StoreFault.TheVariants.{Overflow}

-- whether an int fits in 64 bits, from -2^63 to 2^63 - 1
abbrev pub fits : ℤ → Bool
fits (pos n) = nat_lt n (2 ^ 63)
fits (negsuc n) = nat_lt n (2 ^ 63)

-- an exact result, or the refusal if it does not fit
abbrev pub checked : ℤ → Result ℤ StoreFault
checked z = if fits z then Ok z else Err Overflow

-- the quotient by a number above 0, rounded down: -(a + 1) lies just below -a
abbrev pub floored_by : ℤ → ℕ → ℤ
floored_by (pos a) n = pos (a / n)
floored_by (negsuc a) n = negsuc (a / n)

-- the quotient rounded down; both signs may be turned
abbrev pub floored : ℤ → ℤ → ℤ
floored x (pos n) = floored_by x n
floored x (negsuc n) = floored_by (neg_ℤ x) (suc n)

-- the remainder of the quotient by a number above 0, from 0 on
abbrev pub left_by : ℤ → ℕ → ℕ
left_by (pos a) n = a % n
left_by (negsuc a) n = n - 1 - a % n

-- the remainder of a quotient: it has the sign of the divisor
abbrev pub left_over : ℤ → ℤ → ℤ
left_over x (pos n) = pos (left_by x n)
left_over x (negsuc n) = neg_ℤ (pos (left_by (neg_ℤ x) (suc n)))
