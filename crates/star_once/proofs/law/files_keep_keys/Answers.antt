use Rattle.star_once.proofs.Once.{files_keep_keys}
use Rattle.star_once.proofs.law.files_keep_keys.Goals as goal

pub returns : goal.returns
returns c = files_keep_keys
