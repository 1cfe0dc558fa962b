use Rattle.star_scope.proofs.Leading.{spots_lead}
use Rattle.star_scope.proofs.law.spots_lead.Goals as goal

pub returns : goal.returns
returns g c = spots_lead _
