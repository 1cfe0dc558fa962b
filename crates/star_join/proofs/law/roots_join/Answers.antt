use Rattle.star_join.proofs.law.roots_join.Goals as goal
use Rattle.star_join.proofs.Reports as lemmas

pub returns : goal.returns
returns c = lemmas.roots_join
