use Rattle.star_plan.proofs.Outcomes.{one-outcome}
use Rattle.star_plan.proofs.law.one_outcome.Goals as goal

pub returns : goal.returns
returns c = one-outcome
