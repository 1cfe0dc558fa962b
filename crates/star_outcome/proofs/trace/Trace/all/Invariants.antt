use Rattle.star_outcome.specs.Refusals.{AreRefusals}
use Rattle.star_outcome.proofs.trace.Trace.all.Given as goal

abbrev pub invariant-loop-item : goal.invariant-loop-item
invariant-loop-item g l = AreRefusals g.J.RunId.plan l.all.items
