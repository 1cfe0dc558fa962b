use Rattle.star_needs.proofs.Ends as lemmas
use Rattle.star_needs.proofs.law.one_reading_by_texts.Goals as goal

pub returns : goal.returns
returns c = lemmas.one_reading_by_texts
