use Rattle.star_plan.proofs.ByPlaces.{plans_are_ready}
use Rattle.star_plan.proofs.law.plans_are_ready.Goals as goal

pub returns : goal.returns
returns c = plans_are_ready
