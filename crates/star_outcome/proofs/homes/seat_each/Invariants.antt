use Rattle.std.proofs.Common.{◌≡◌, fold, take}
use Rattle.star_outcome.specs.Homes.{seated}
use Rattle.star_outcome.proofs.homes.seat_each.Given as goal

abbrev pub invariant-loop-reach : goal.invariant-loop-reach
invariant-loop-reach l = l.homes ≡ fold seated l.initial.homes (take l.reach-index l.stores)
