use Rattle.star_plan.proofs.Tight.{put_up-tight}
use Rattle.star_plan.proofs.law.puts_stay_tight.Goals as goal

pub returns : goal.returns
returns c = put_up-tight
