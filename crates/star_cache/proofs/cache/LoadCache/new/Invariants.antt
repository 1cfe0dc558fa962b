use Rattle.std.proofs.Common.{◌≡◌, ◌+◌}
use Rattle.star_cache.specs.Seats.{AreNew}
use Rattle.star_cache.proofs.cache.LoadCache.new.Given as goal

abbrev pub invariant-loop-number : goal.invariant-loop-number
invariant-loop-number g l = (l.rest.parts + l.number ≡ l.loaders) × (l.rest.amount ≡ 0) × (l.ledger.total ≡ 0) × AreNew l.number l.seats.items
