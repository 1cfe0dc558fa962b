use Rattle.star_data.proofs.Reading.{serde_reads_back}
use Rattle.star_data.proofs.law.serde_reads_back.Goals as goal

pub returns : goal.returns
returns c = serde_reads_back
