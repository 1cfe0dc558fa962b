use Rattle.std.proofs.Common.{◌≡◌, vec_len}
use Rattle.star_plan.specs.Plan.{Plan}
use Rattle.star_outcome.specs.Kept.{AreModules}
use Rattle.star_report.specs.Drawn.{IsTableWithin}
use Rattle.star_report.specs.Table.{IsTableBelow}
use Rattle.star_report.proofs.modules.modules_by_number.Given as goal

abbrev pub invariant-loop-i : goal.invariant-loop-i
invariant-loop-i l = record {
  same : l.kept ≡ l.initial.kept;
  sized : vec_len l.table ≡ l.files;
  within : IsTableWithin l.files l.table.items;
  modules : (plan : Plan) → AreModules plan l.run.kept → IsTableBelow plan l.run.kept l.i l.table.items;
}
