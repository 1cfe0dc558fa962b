-- The reached files below a number, as a loop over all files finds them.
use Rattle.std.specs.Prelude.{◌<◌, ℕ, List, Contains}
use Rattle.std.specs.List.{All}
use Rattle.std.specs.List.Sorted.{IsStrictlyIncreasing}
use Rattle.star_plan.specs.Plan.{Plan}
use Rattle.star_plan.specs.Reached.{IsReached}

-- these are the reached files below a number, in order
pub record AreListed (plan : Plan) (count : ℕ) (ns : List ℕ) : Type 0 where
  pub in_order : IsStrictlyIncreasing ns
  pub below : All (λ n. n < count) ns
  pub reached : (n : ℕ) → Contains ns n → IsReached plan n
  pub all : (n : ℕ) → IsReached plan n → n < count → Contains ns n
