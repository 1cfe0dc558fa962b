use Rattle.star_needs.proofs.Bodies as lemmas
use Rattle.star_needs.proofs.law.one_module_end_by_needs.Goals as goal

pub returns : goal.returns
returns c = lemmas.one_module_end_by_needs
