use Rattle.star_unseen.proofs.Ended.{files_without_loads_run_the_same}
use Rattle.star_unseen.proofs.law.files_without_loads_run_the_same.Goals as goal

pub returns : goal.returns
returns c = files_without_loads_run_the_same
