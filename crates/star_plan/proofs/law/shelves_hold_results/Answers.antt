use Rattle.star_plan.proofs.Shelves.{holds}
use Rattle.star_plan.proofs.law.shelves_hold_results.Goals as goal

pub returns : goal.returns
returns c = holds
