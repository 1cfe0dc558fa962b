use Rattle.std.proofs.Common.{refl}
use Rattle.star_plan.specs.Results.{went_well}
use Rattle.star_plan.proofs.Goodness.{good}
use Rattle.star_plan.proofs.law.outcomes_tell.Goals as goal

pub returns : goal.returns
returns c = λ plan n o is. good plan n o (went_well o) refl is
