use Rattle.star_plan.proofs.Outcomes.{runs-over_loads}
use Rattle.star_plan.proofs.law.runs_over_loads.Goals as goal

pub returns : goal.returns
returns c = runs-over_loads
