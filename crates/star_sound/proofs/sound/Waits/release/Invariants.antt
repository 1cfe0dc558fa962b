use Rattle.std.proofs.Common.{◌≡◌, length}
use Rattle.star_sound.specs.Sound.{rows_of}
use Rattle.star_sound.specs.Waiting.{AreSized, AreWaiting, left_in}
use Rattle.star_sound.proofs.sound.Waits.release.Given as goal

abbrev pub invariant-loop-n : goal.invariant-loop-n
invariant-loop-n l = record {
  sized : AreSized (length l.needs) l.self;
  left : left_in l.self.sound.items l.self.todo.items ≡ left_in l.initial.self.sound.items l.initial.self.todo.items;
  waiting : AreWaiting (rows_of l.needs) l.initial.self l.initial.files.items → AreWaiting (rows_of l.needs) l.self l.files.items;
}

abbrev pub decreases-loop-n : goal.decreases-loop-n
decreases-loop-n l = length l.files.items
