-- Ranges: how many ints they have, and which have the same ones.
use Rattle.std.specs.Prelude.{ℕ, zero, suc, ◌+◌, ◌-◌, ◌/◌, nat_eq, Bool, ◌&&◌, ◌||◌, ℤ, pos, negsuc, if◌then◌else◌}
use Rattle.std.specs.Ordering.{int_eq}
use Rattle.std.specs.Int.{int_gap}
use Rattle.star_store.specs.declared.range.Range.{Range}

-- the number of steps of a size that begin within a gap
abbrev pub steps_within : ℕ → ℕ → ℕ
steps_within gap n = if nat_eq gap 0 then 0 else (gap - 1) / n + 1

-- how many ints a range has: upwards while they are below its stop, downwards while above
abbrev pub length_by : ℤ → ℤ → ℤ → ℕ
length_by start stop (pos zero) = 0
length_by start stop (pos (suc n)) = steps_within (int_gap start stop) (suc n)
length_by start stop (negsuc n) = steps_within (int_gap stop start) (suc n)

abbrev pub range_length : Range → ℕ
range_length r = length_by r.start r.stop r.step

-- ranges with the same ints: the same number, the same first one, and the same step if there is a second one
abbrev pub same_range : Range → Range → Bool
same_range r s =
    nat_eq (range_length r) (range_length s) && (nat_eq (range_length r) 0 ||
    (int_eq r.start s.start && (nat_eq (range_length r) 1 || int_eq r.step s.step)))
