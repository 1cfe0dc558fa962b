use Rattle.star_needs.proofs.Among as lemmas
use Rattle.star_needs.proofs.law.one_module_by_needs.Goals as goal

pub returns : goal.returns
returns c = lemmas.one_module_by_needs
