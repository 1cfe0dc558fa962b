use Rattle.star_laws.proofs.Orders.{core_has_no_keys}
use Rattle.star_laws.proofs.law.core_has_no_keys.Goals as goal

pub returns : goal.returns
returns c = core_has_no_keys
