use Rattle.std.proofs.Common.{◌≡◌, List}
use Rattle.std.specs.Prelude.{vec_len}
use Rattle.star_label.specs.Files.{File}
use Rattle.star_scope.specs.Resolve.{Outside}
use Rattle.star_reading.specs.Readings.{AreReadAs}
use Rattle.star_reading.proofs.reading.Reads.take_others.Given as goal

abbrev pub invariant-loop-n : goal.invariant-loop-n
invariant-loop-n l = record {
  all : (files : List File) (outside : Outside) → AreReadAs files outside l.initial.self.all.items → AreReadAs files outside l.initial.self.others.items → AreReadAs files outside l.self.all.items;
  others : (files : List File) (outside : Outside) → AreReadAs files outside l.initial.self.others.items → AreReadAs files outside l.self.others.items;
}
