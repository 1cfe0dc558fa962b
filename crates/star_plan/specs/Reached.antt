-- The reached files: the roots, and all files that they lead to by loads.
use Rattle.std.specs.Prelude.{ℕ, Contains}
use Rattle.star_cache.specs.State.{Loads}
use Rattle.star_plan.specs.Plan.{Plan, loaded}

-- the least set that has the roots and all that its members load
pub data IsReached (plan : Plan) : ℕ → Type 0 where
  root : {n : ℕ} → Contains plan.roots n → IsReached plan n
  load : {n m : ℕ} → IsReached plan n → Loads (loaded plan) n m → IsReached plan m
