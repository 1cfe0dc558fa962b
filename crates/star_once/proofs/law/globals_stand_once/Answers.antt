use Rattle.star_once.proofs.Names.{globals_stand_once}
use Rattle.star_once.proofs.law.globals_stand_once.Goals as goal

pub returns : goal.returns
returns c = globals_stand_once
