use Rattle.star_data.proofs.law.equal_are_same.Goals as goal
use Rattle.star_data.proofs.Equal as lemmas

pub returns : goal.returns
returns c = lemmas.equal_are_same
