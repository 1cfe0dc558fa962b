use Rattle.star_laws.proofs.Calls.{bound_where_they_fit}
use Rattle.star_laws.proofs.law.bound_where_they_fit.Goals as goal

pub returns : goal.returns
returns c = bound_where_they_fit
