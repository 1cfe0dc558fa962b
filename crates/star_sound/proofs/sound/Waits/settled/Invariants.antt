use Rattle.std.proofs.Common.{[], length}
use Rattle.star_sound.specs.Sound.{rows_of}
use Rattle.star_sound.specs.Waiting.{AreSized, AreWaiting, left_in}
use Rattle.star_sound.proofs.sound.Waits.settled.Given as goal

abbrev pub invariant-loop-m : goal.invariant-loop-m
invariant-loop-m l = record {
  sized : AreSized (length l.needs) l.waits;
  waiting : AreWaiting (rows_of l.needs) l.waits [];
}

-- each turn takes a file that is sound, and each becomes so at most once
abbrev pub decreases-loop-m : goal.decreases-loop-m
decreases-loop-m l = left_in l.waits.sound.items l.waits.todo.items
