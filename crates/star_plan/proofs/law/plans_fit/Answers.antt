use Rattle.star_plan.proofs.ByPlaces.{plans_fit}
use Rattle.star_plan.proofs.law.plans_fit.Goals as goal

pub returns : goal.returns
returns c = plans_fit
