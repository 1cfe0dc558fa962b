use Rattle.star_plan.proofs.Seen.{cycle_is_bad}
use Rattle.star_plan.proofs.law.no_cycle_is_good.Goals as goal

pub returns : goal.returns
returns c = cycle_is_bad
