-- Ranges: the ints that they have at each place, and when two are the same.
use Rattle.std.specs.Prelude.{◌≡◌, ◌⊎◌, ◌↔◌, ℕ, true, Some, ℤ, pos, ◌+ℤ◌, ◌*ℤ◌, ◌<ℤ◌}
use Rattle.star_store.specs.declared.values.Value.{Value}
use Rattle.star_store.specs.declared.values.Value.TheVariants as value
use Rattle.star_store.specs.declared.range.Range.{Range}
use Rattle.star_store.specs.Range.{same_range}
use Rattle.star_meaning.specs.Values.{range_item}
use Rattle.star_meaning.specs.Operators.{range_has}

-- the int that is a number of steps from the start
abbrev pub stepped : Range → ℕ → ℤ
stepped r i = r.start +ℤ pos i *ℤ r.step

-- before the stop: below it if the step is above 0, above it if the step is below 0, and never if the step is 0
abbrev pub IsBefore : (step z stop : ℤ) → Type 0
IsBefore step z stop = ((pos 0 <ℤ step) × (z <ℤ stop)) ⊎ ((step <ℤ pos 0) × (stop <ℤ z))

-- The law: a range has an item at index `i` exactly if the int `i` steps from its start comes before its stop, and that
-- int is the item.
abbrev pub RangesStepToTheirStop : Type 0
RangesStepToTheirStop = (r : Range) (i : ℕ) (v : Value)
    → range_item r i ≡ Some v ↔ (v ≡ value.Int (stepped r i)) × IsBefore r.step (stepped r i) r.stop

-- The law: an int is in a range exactly if it is the item at some index.
abbrev pub RangesHaveTheirItems : Type 0
RangesHaveTheirItems = (r : Range) (z : ℤ) → range_has r z ≡ true ↔ ((i : ℕ) × (range_item r i ≡ Some (value.Int z)))

-- The law: two ranges are the same exactly if at each index both have the same item, or neither has one.
abbrev pub SameRangesHaveTheSameItems : Type 0
SameRangesHaveTheSameItems = (r s : Range) → same_range r s ≡ true ↔ ((i : ℕ) → range_item r i ≡ range_item s i)
