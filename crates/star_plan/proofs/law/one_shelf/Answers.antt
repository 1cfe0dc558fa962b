use Rattle.star_plan.proofs.Needs.{the_one_shelf}
use Rattle.star_plan.proofs.law.one_shelf.Goals as goal

pub returns : goal.returns
returns c = the_one_shelf
