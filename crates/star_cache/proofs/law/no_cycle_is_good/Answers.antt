use Rattle.std.proofs.Common.{ℕ}
use Rattle.star_cache.specs.State.{Loads}
use Rattle.star_cache.proofs.Walks.{cycle-not_good, next_on_cycle}
use Rattle.star_cache.proofs.law.no_cycle_is_good.Goals as goal

pub returns : goal.returns
returns g c =
    let R : ℕ → ℕ → Type 0 = Loads g.D.ByDepth.loads in
    let bad = cycle-not_good R g.D.ByDepth.GoodAt g.D.ByDepth.never g.D.ByDepth.below in
    λ d n m on.
    let turn = next_on_cycle R n m on.0 on.1 in
    (bad d n m on.0 on.1, bad d m turn.0 turn.1.0 turn.1.1)
