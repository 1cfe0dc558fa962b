use Rattle.star_laws.proofs.Division.{one_quotient}
use Rattle.star_laws.proofs.law.one_quotient.Goals as goal

pub returns : goal.returns
returns c = one_quotient
