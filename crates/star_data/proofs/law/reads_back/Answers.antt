use Rattle.star_data.proofs.Reading.{reads_back}
use Rattle.star_data.proofs.law.reads_back.Goals as goal

pub returns : goal.returns
returns c = reads_back
