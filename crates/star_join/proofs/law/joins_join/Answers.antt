use Rattle.star_join.proofs.law.joins_join.Goals as goal
use Rattle.star_join.proofs.Joins as lemmas

pub returns : goal.returns
returns c = lemmas.joins_join
