use Rattle.star_plan.proofs.Exists.{each_has_report}
use Rattle.star_plan.proofs.law.each_has_report.Goals as goal

pub returns : goal.returns
returns c = each_has_report
