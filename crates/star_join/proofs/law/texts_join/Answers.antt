use Rattle.star_join.proofs.law.texts_join.Goals as goal
use Rattle.star_join.proofs.Texts as lemmas

pub returns : goal.returns
returns c = lemmas.texts_join
