use Rattle.star_plan.proofs.Follow.{cycles_turn}
use Rattle.star_plan.proofs.law.cycles_turn.Goals as goal

pub returns : goal.returns
returns c = cycles_turn
