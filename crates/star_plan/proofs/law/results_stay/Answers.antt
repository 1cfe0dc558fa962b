use Rattle.star_plan.proofs.Stay.{result-stays}
use Rattle.star_plan.proofs.law.results_stay.Goals as goal

pub returns : goal.returns
returns c = result-stays
