use Rattle.star_reach.proofs.law.plans_reach_no_more.Goals as goal
use Rattle.star_reach.proofs.Plans as lemmas

pub returns : goal.returns
returns c = lemmas.reach_no_more
