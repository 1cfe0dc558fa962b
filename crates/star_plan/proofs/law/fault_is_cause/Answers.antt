use Rattle.star_plan.proofs.Follow.{fault_is_cause}
use Rattle.star_plan.proofs.law.fault_is_cause.Goals as goal

pub returns : goal.returns
returns c = fault_is_cause
