use Rattle.star_once.proofs.Once.{frozen_keys_stand_once}
use Rattle.star_once.proofs.law.frozen_keys_stand_once.Goals as goal

pub returns : goal.returns
returns c = frozen_keys_stand_once
