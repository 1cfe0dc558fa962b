use Rattle.star_join.proofs.law.roots_reach.Goals as goal
use Rattle.star_join.proofs.Reached as lemmas

pub returns : goal.returns
returns c = lemmas.roots_reach
