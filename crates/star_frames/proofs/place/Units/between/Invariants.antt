use Rattle.std.proofs.Common.{◌≡◌, ◌≤◌, ◌-◌, ◌*◌, ℕ, length}
use Rattle.star_frames.specs.Place.{units_before}
use Rattle.star_frames.proofs.place.Units.between.Given as goal

abbrev pub invariant-loop-at : goal.invariant-loop-at
invariant-loop-at l =
    (l.start ≤ l.at) × (l.at ≤ l.end) × (l.end ≤ length l.text)
    × (l.count ≡ units_before l.self l.text l.at - units_before l.self l.text l.start)
    × (units_before l.self l.text l.start ≤ units_before l.self l.text l.at)
    × (l.count ≤ 2 * (l.at - l.start))

abbrev pub decreases-loop-at : goal.decreases-loop-at
decreases-loop-at l = l.end - l.at
