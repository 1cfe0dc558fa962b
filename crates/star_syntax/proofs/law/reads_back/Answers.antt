use Rattle.star_syntax.proofs.ReadsBack.{reads_back}
use Rattle.star_syntax.proofs.law.reads_back.Goals as goal

pub returns : goal.returns
returns c = reads_back
