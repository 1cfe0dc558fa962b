use Rattle.std.proofs.Common.{take}
use Rattle.star_outline.proofs.Noted.{AllNoted}
use Rattle.star_outline.proofs.binders.Binders.of.Given as goal

abbrev pub invariant-loop-block : goal.invariant-loop-block
invariant-loop-block l = AllNoted (take l.block-index l.block-items) l.binders
