use Rattle.std.proofs.Common.{◌≡◌, ◌≤◌, length}
use Rattle.star_frames.specs.Place.{starts_in}
use Rattle.star_frames.proofs.place.Places.new.Given as goal

abbrev pub invariant-loop-at : goal.invariant-loop-at
invariant-loop-at l = l.starts.items ≡ starts_in l.bytes l.at
