use Rattle.star_plan.proofs.Causes.{one-cause}
use Rattle.star_plan.proofs.law.one_cause.Goals as goal

pub returns : goal.returns
returns c = one-cause
