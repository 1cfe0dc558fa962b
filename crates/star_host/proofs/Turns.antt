-- Loads by which a file fails, as the cache answers them.
use Rattle.std.proofs.Common.{◌≡◌, ℕ, Some, subst}
use Rattle.std.specs.Prelude.{slice_get}
use Rattle.star_cache.specs.State.{Loads}
use Rattle.star_cache.specs.Walk.{IsOnCycle}
use Rattle.star_cache.specs.Tells.{Tells}
use Rattle.star_cache.specs.declared.reply.Reply.{Reply}
use Rattle.star_cache.specs.declared.reply.Reply.TheVariants.{Failed}
use Rattle.star_plan.specs.Plan.{Plan, loaded}
use Rattle.star_plan.specs.Results.{IsGood}
use Rattle.star_outcome.specs.Views.{IsBadLoad}
use Rattle.star_outcome.proofs.Opens.{cycle_bad}

-- a load of a file that has failed
pub failed_load : {P : Type 0} (Right : ℕ → P → Type 0) (C W : Type 0) (plan : Plan) (n i m : ℕ) (p : P) (r : Reply P)
    → slice_get (loaded plan n) i ≡ Some m → r ≡ Failed p → Tells Right (IsGood plan) C W m r → IsBadLoad plan n i
failed_load Right C W plan n i m p r there e t = (m, there, (subst (Tells Right (IsGood plan) C W m) e t).1)

-- a load that closes a cycle
pub cycle_load : (plan : Plan) (n i m f : ℕ) → slice_get (loaded plan n) i ≡ Some m → f ≡ n → IsOnCycle (Loads (loaded plan)) f m → IsBadLoad plan n i
cycle_load plan n i m f there number cycle = cycle_bad plan n i m there (subst (λ k. IsOnCycle (Loads (loaded plan)) k m) number cycle)
