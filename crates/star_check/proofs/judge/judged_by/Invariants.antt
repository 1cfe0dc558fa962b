use Rattle.std.proofs.Common.{◌≡◌, List, length, map}
use Rattle.std.specs.Prelude.{All}
use Rattle.star_label.specs.Files.{File}
use Rattle.star_plan.specs.Plan.{Plan}
use Rattle.star_plan.specs.Reading.{IsPlanOf}
use Rattle.star_reading.specs.Readings.{readings}
use Rattle.star_check.specs.Judged.{AreNexts, AreProspects, IsCheckBelow, IsJudgedBelow, judged_view}
use Rattle.star_check.proofs.judge.judged_by.Given as goal

abbrev pub invariant-loop-n : goal.invariant-loop-n
invariant-loop-n l = record {
  within : All (IsJudgedBelow (length l.reads.all.items)) l.all.items;
  check : (files : List File) (plan : Plan) → IsPlanOf files plan → readings l.reads.all.items ≡ plan.reads → AreProspects l.reads.all.items l.prospects → AreNexts l.reads.all.items l.prospects l.causes → IsCheckBelow plan l.n (map judged_view l.all.items);
}
