use Rattle.std.proofs.Common.{◌≡◌}
use Rattle.std.specs.Prelude.{take}
use Rattle.star_outcome.specs.Reaches.{shared_of}
use Rattle.star_outcome.proofs.store_row.share_each.Given as goal

abbrev pub invariant-loop-block : goal.invariant-loop-block
invariant-loop-block l = shared_of l.shared.items ≡ shared_of (take l.block-index l.blocks)
