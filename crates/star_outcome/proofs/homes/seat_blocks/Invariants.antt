use Rattle.std.proofs.Common.{◌≡◌, fold, take}
use Rattle.star_outcome.specs.Homes.{seated}
use Rattle.star_outcome.specs.Reaches.{shared_of}
use Rattle.star_outcome.proofs.homes.seat_blocks.Given as goal

abbrev pub invariant-loop-block : goal.invariant-loop-block
invariant-loop-block l = l.homes ≡ fold seated l.initial.homes (shared_of (take l.block-index l.blocks))
