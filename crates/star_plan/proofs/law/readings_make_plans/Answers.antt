use Rattle.star_plan.proofs.Walks.{readings_make_plans}
use Rattle.star_plan.proofs.law.readings_make_plans.Goals as goal

pub returns : goal.returns
returns c = readings_make_plans
