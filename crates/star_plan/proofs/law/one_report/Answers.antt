use Rattle.star_plan.proofs.Reports.{one-report}
use Rattle.star_plan.proofs.law.one_report.Goals as goal

pub returns : goal.returns
returns c = one-report
