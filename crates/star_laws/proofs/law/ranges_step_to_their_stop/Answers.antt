use Rattle.star_laws.proofs.Ranges.{ranges_step_to_their_stop}
use Rattle.star_laws.proofs.law.ranges_step_to_their_stop.Goals as goal

pub returns : goal.returns
returns c = ranges_step_to_their_stop
