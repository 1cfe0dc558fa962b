use Rattle.std.proofs.Common.{◌≡◌, ◌≤◌, ◌-◌, ◌⊎◌, ℕ, false, length, get_or}
use Rattle.star_frames.specs.Place.{goes_on, units_before}
use Rattle.star_frames.proofs.place.passed.Given as goal

abbrev pub invariant-loop-at : goal.invariant-loop-at
invariant-loop-at l =
    (l.start ≤ l.at) × (l.at ≤ l.end) × (l.end ≤ length l.text)
    × (l.left ≡ l.column - (units_before l.units l.text l.at - units_before l.units l.text l.start))
    × (units_before l.units l.text l.start ≤ units_before l.units l.text l.at)
    × ((offset : ℕ) → l.start ≤ offset → offset ≤ l.end → (offset ≡ l.end) ⊎ (goes_on (get_or l.text offset 0) ≡ false)
    → l.column ≡ units_before l.units l.text offset - units_before l.units l.text l.start → l.at ≤ offset)

abbrev pub decreases-loop-at : goal.decreases-loop-at
decreases-loop-at l = l.end - l.at
