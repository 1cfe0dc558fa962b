use Rattle.std.proofs.Common.{◌≡◌, true}
use Rattle.star_plan.proofs.Walks.{least}
use Rattle.star_plan.proofs.law.reached_is_least.Goals as goal

pub returns : goal.returns
returns c = λ plan is_in roots step. least plan (λ n. is_in n ≡ true) roots step
