use Rattle.star_needs.proofs.Ends as lemmas
use Rattle.star_needs.proofs.law.readings_stay.Goals as goal

pub returns : goal.returns
returns c = lemmas.readings_stay
