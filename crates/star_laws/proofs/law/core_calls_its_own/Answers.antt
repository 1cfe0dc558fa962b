use Rattle.star_laws.proofs.Dialects.{core_calls_its_own}
use Rattle.star_laws.proofs.law.core_calls_its_own.Goals as goal

pub returns : goal.returns
returns c = core_calls_its_own
