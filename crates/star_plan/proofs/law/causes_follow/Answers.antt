use Rattle.star_plan.proofs.Follow.{causes_follow}
use Rattle.star_plan.proofs.law.causes_follow.Goals as goal

pub returns : goal.returns
returns c = causes_follow
