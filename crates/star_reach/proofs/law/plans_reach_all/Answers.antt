use Rattle.star_reach.proofs.law.plans_reach_all.Goals as goal
use Rattle.star_reach.proofs.Both as lemmas

pub returns : goal.returns
returns c = lemmas.reach_all_too
