use Rattle.star_join.proofs.law.roots_are_a_set.Goals as goal
use Rattle.star_join.proofs.Reports as lemmas

pub returns : goal.returns
returns c = lemmas.roots_are_a_set
