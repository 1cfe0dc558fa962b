use Rattle.star_once.proofs.Results.{results_keep_keys}
use Rattle.star_once.proofs.law.results_keep_keys.Goals as goal

pub returns : goal.returns
returns c = results_keep_keys
