use Rattle.star_plan.proofs.Stay.{results-agree}
use Rattle.star_plan.proofs.law.results_agree.Goals as goal

pub returns : goal.returns
returns c = results-agree
