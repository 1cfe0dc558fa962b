use Rattle.star_sound.proofs.Steps.{Passes}
use Rattle.star_sound.proofs.sound.first_from.Given as goal

abbrev pub invariant-loop-place : goal.invariant-loop-place
invariant-loop-place l = Passes l.sound l.its l.from l.place
