use Rattle.star_join.proofs.law.answers_join.Goals as goal
use Rattle.star_join.proofs.Answers as lemmas

pub returns : goal.returns
returns c = lemmas.answers_join
