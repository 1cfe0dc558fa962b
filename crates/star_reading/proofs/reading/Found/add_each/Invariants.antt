use Rattle.std.proofs.Common.{List}
use Rattle.star_label.specs.Files.{File}
use Rattle.star_scope.specs.Resolve.{Outside}
use Rattle.star_reading.specs.Readings.{AreAllReadAs, AreReadAs}
use Rattle.star_reading.proofs.reading.Found.add_each.Given as goal

abbrev pub invariant-loop-n : goal.invariant-loop-n
invariant-loop-n l = (files : List File) (outside : Outside) → AreAllReadAs files outside l.yielded → AreReadAs files outside l.initial.self.reads.items → AreReadAs files outside l.self.reads.items
