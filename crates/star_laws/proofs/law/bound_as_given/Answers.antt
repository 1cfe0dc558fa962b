use Rattle.star_laws.proofs.BoundArguments.{bound_as_given}
use Rattle.star_laws.proofs.law.bound_as_given.Goals as goal

pub returns : goal.returns
returns c = bound_as_given
