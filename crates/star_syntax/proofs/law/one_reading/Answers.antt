use Rattle.star_syntax.proofs.Once.{one_reading}
use Rattle.star_syntax.proofs.law.one_reading.Goals as goal

pub returns : goal.returns
returns c = one_reading
