use Rattle.star_plan.proofs.Plans.{one-plan}
use Rattle.star_plan.proofs.law.one_plan.Goals as goal

pub returns : goal.returns
returns c = one-plan
