use Rattle.star_needs.proofs.Ends as lemmas
use Rattle.star_needs.proofs.law.loads_for_all_roots.Goals as goal

pub returns : goal.returns
returns c = lemmas.loads_for_all_roots
