use Rattle.star_plan.proofs.Needs.{needs_of_loads}
use Rattle.star_plan.proofs.law.needs_of_loads.Goals as goal

pub returns : goal.returns
returns c = needs_of_loads
