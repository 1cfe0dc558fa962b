use Rattle.star_plan.proofs.Follow.{cycle_is_cause}
use Rattle.star_plan.proofs.law.cycle_is_cause.Goals as goal

pub returns : goal.returns
returns c = cycle_is_cause
