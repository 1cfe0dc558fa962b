use Rattle.star_scope.specs.Resolve.{outside_seen}
use Rattle.star_reading.specs.Found.{AreFound, left_of}
use Rattle.star_reading.specs.Readings.{AreReadAs}
use Rattle.star_reading.proofs.reading.Reader.read_all.Given as goal

abbrev pub invariant-loop-n : goal.invariant-loop-n
invariant-loop-n g l = record {
  found : AreFound l.self.files.now (outside_seen l.self.prelude l.self.language) l.self.roots.now l.found.reads.items l.found.marks.items l.found.todo.items;
  ahead : AreReadAs l.self.files.now (outside_seen l.self.prelude l.self.language) l.ahead.reads.items;
}

-- each turn takes a file that was found, and each is found at most once
abbrev pub decreases-loop-n : goal.decreases-loop-n
decreases-loop-n g l = left_of l.found.marks.items l.found.todo.items
