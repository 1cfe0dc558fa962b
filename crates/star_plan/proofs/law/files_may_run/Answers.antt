use Rattle.star_plan.proofs.Ready.{files_may_run}
use Rattle.star_plan.proofs.law.files_may_run.Goals as goal

pub returns : goal.returns
returns c = files_may_run
