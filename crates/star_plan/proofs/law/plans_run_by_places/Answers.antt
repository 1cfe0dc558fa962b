use Rattle.star_plan.proofs.ByPlaces.{plans_run_by_places}
use Rattle.star_plan.proofs.law.plans_run_by_places.Goals as goal

pub returns : goal.returns
returns c = plans_run_by_places
