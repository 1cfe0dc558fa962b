use Rattle.star_laws.proofs.Dialects.{core_has_its_methods}
use Rattle.star_laws.proofs.law.core_has_its_methods.Goals as goal

pub returns : goal.returns
returns c = core_has_its_methods
