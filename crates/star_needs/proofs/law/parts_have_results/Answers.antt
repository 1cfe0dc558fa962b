use Rattle.star_needs.proofs.Portions as lemmas
use Rattle.star_needs.proofs.law.parts_have_results.Goals as goal

pub returns : goal.returns
returns c = lemmas.parts_have_results
