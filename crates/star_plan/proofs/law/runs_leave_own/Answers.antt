use Rattle.star_plan.proofs.Needs.{runs_leave_own}
use Rattle.star_plan.proofs.law.runs_leave_own.Goals as goal

pub returns : goal.returns
returns c = runs_leave_own
