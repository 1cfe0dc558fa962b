use Rattle.star_cause.specs.Ends.{AreSettled}
use Rattle.star_cause.proofs.ends.settle.Given as goal

abbrev pub invariant-loop-i : goal.invariant-loop-i
invariant-loop-i l = AreSettled l.initial.ends.items l.files l.stop l.i l.ends.items
