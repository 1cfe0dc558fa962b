use Rattle.star_once.proofs.Once.{loads_keep_keys}
use Rattle.star_once.proofs.law.loads_keep_keys.Goals as goal

pub returns : goal.returns
returns c = loads_keep_keys
