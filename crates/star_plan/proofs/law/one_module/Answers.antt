use Rattle.star_plan.proofs.Shelves.{one-own}
use Rattle.star_plan.proofs.law.one_module.Goals as goal

pub returns : goal.returns
returns c = one-own
