use Rattle.std.proofs.Common.{List}
use Rattle.std.specs.Prelude.{All, IfOk}
use Rattle.star_label.specs.Files.{File}
use Rattle.star_scope.specs.Resolve.{Outside}
use Rattle.star_reading.specs.Readings.{AreAllReadAs, AreReadAs}
use Rattle.star_reading.proofs.reading.Found.add_shares.Given as goal

abbrev pub invariant-loop-share : goal.invariant-loop-share
invariant-loop-share l = (files : List File) (outside : Outside) → All (λ r. IfOk r (λ reads. AreAllReadAs files outside reads.items)) l.yielded → AreReadAs files outside l.initial.self.reads.items → AreReadAs files outside l.self.reads.items
