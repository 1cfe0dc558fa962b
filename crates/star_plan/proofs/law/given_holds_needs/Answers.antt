use Rattle.star_plan.proofs.Needs.{given_holds_needs}
use Rattle.star_plan.proofs.law.given_holds_needs.Goals as goal

pub returns : goal.returns
returns c = given_holds_needs
