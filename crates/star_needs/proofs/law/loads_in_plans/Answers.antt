use Rattle.star_needs.proofs.Ends as lemmas
use Rattle.star_needs.proofs.law.loads_in_plans.Goals as goal

pub returns : goal.returns
returns c = lemmas.loads_in_plans
