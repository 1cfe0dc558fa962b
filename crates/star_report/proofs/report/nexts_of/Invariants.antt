use Rattle.std.proofs.Common.{◌≡◌, vec_len}
use Rattle.star_plan.specs.Plan.{Plan}
use Rattle.star_report.specs.Fails.{AreBelow, AreFailsBelow}
use Rattle.star_outcome.specs.Kept.{AreModules}
use Rattle.star_report.proofs.report.nexts_of.Given as goal

abbrev pub invariant-loop-i : goal.invariant-loop-i
invariant-loop-i l = record {
  same : l.run ≡ l.initial.run;
  sized : vec_len l.nexts ≡ l.files;
  fit : AreBelow l.files l.nexts.items;
  fails : (plan : Plan) → AreModules plan l.initial.run.kept → AreFailsBelow plan l.initial.run.kept l.i l.nexts.items;
}
