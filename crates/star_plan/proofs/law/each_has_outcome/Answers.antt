use Rattle.star_plan.proofs.Exists.{each_has_outcome}
use Rattle.star_plan.proofs.law.each_has_outcome.Goals as goal

pub returns : goal.returns
returns c = each_has_outcome
