use Rattle.std.proofs.Common.{◌≡◌, ◌≤◌, ◌<◌, ◌-◌, ℕ, length, get_or}
use Rattle.star_frames.specs.Place.{start_of}
use Rattle.star_frames.proofs.place.Places.line_at.Given as goal

abbrev pub invariant-loop-low : goal.invariant-loop-low
invariant-loop-low l =
    (l.low ≤ l.high) × (l.high ≤ length l.self.starts.items) × (start_of l.self l.low ≤ l.offset)
    × (l.high < length l.self.starts.items → l.offset < get_or l.self.starts.items l.high 0)

abbrev pub decreases-loop-low : goal.decreases-loop-low
decreases-loop-low l = l.high - l.low
