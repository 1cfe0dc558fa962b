-- The distances that a number of steps of one size make up, for `in` a range.
use Rattle.std.specs.Prelude.{ℕ, ◌/◌, ◌%◌, nat_eq, nat_lt, ℤ, pos, negsuc, ◌&&◌, false, Bool}

-- whether fewer than a number of steps of a size make up a distance
abbrev pub reached : ℤ → ℕ → ℕ → Bool
reached (pos gap) n count = nat_eq (gap % n) 0 && nat_lt (gap / n) count
reached (negsuc gap) n count = false
