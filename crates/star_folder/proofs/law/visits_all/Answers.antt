use Rattle.star_folder.proofs.law.visits_all.Goals as goal
use Rattle.star_folder.proofs.Reaches as lemmas

pub returns : goal.returns
returns c = lemmas.visits_all
