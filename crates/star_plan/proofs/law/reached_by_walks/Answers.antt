use Rattle.star_plan.specs.Reached.{root}
use Rattle.star_plan.proofs.Walks.{to_walk, walked}
use Rattle.star_plan.proofs.law.reached_by_walks.Goals as goal

pub returns : goal.returns
returns c = λ plan n. (to_walk plan n, λ way. walked plan way.2.0 way.0 n (root way.1) way.2.1)
