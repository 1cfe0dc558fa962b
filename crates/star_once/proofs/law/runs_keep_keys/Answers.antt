use Rattle.star_once.proofs.Once.{runs_keep_keys}
use Rattle.star_once.proofs.law.runs_keep_keys.Goals as goal

pub returns : goal.returns
returns c = runs_keep_keys
