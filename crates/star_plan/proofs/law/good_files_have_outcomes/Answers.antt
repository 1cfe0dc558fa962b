use Rattle.star_plan.proofs.Needs.{good_files_have_outcomes}
use Rattle.star_plan.proofs.law.good_files_have_outcomes.Goals as goal

pub returns : goal.returns
returns c = good_files_have_outcomes
