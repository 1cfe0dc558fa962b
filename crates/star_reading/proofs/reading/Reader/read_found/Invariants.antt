use Rattle.star_scope.specs.Resolve.{outside_seen}
use Rattle.star_reading.specs.Readings.{AreAllReadAs}
use Rattle.star_reading.proofs.reading.Reader.read_found.Given as goal

abbrev pub invariant-loop : goal.invariant-loop
invariant-loop g l =
    (goal.iterator-loop g).can_next l.iterator' × (goal.iterator-loop g).is_finite l.iterator' × AreAllReadAs l.self.files.now (outside_seen l.self.prelude l.self.language) l.reads.items
