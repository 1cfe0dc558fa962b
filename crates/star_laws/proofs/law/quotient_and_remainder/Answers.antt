use Rattle.star_laws.proofs.Division.{quotient_and_remainder}
use Rattle.star_laws.proofs.law.quotient_and_remainder.Goals as goal

pub returns : goal.returns
returns c = quotient_and_remainder
