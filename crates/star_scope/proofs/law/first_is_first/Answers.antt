use Rattle.star_scope.proofs.FirstFaults.{first_is_first}
use Rattle.star_scope.proofs.law.first_is_first.Goals as goal

pub returns : goal.returns
returns c = first_is_first
