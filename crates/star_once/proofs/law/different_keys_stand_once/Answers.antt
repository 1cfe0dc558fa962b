use Rattle.star_once.proofs.Once.{different_keys_stand_once}
use Rattle.star_once.proofs.law.different_keys_stand_once.Goals as goal

pub returns : goal.returns
returns c = different_keys_stand_once
