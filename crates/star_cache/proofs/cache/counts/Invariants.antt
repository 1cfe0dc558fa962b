use Rattle.std.proofs.Common.{◌≡◌, ◌-◌, ◌++◌, map, take, replicate}
use Rattle.star_cache.specs.State.{LoaderState}
use Rattle.star_cache.proofs.cache.counts.Given as goal

abbrev pub invariant-loop-seat : goal.invariant-loop-seat
invariant-loop-seat g l = l.counts ≡ map (λ (s : LoaderState). s.count) (take l.seat l.book.loaders) ++ replicate (64 - l.seat) 0
