use Rattle.star_needs.proofs.Portions as lemmas
use Rattle.star_needs.proofs.law.parts_run.Goals as goal

pub returns : goal.returns
returns c = lemmas.parts_run
