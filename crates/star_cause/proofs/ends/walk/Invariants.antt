use Rattle.std.proofs.Common.{◌-◌, length}
use Rattle.star_cause.proofs.Walks.{OnWay}
use Rattle.star_cause.proofs.ends.walk.Given as goal

abbrev pub invariant-way : goal.invariant-way
invariant-way l = OnWay l.nexts l.ends l.n l.files.items l.places.items l.at

abbrev pub decreases-way : goal.decreases-way
decreases-way l = length l.nexts - length l.files.items
