use Rattle.std.proofs.Common.{◌<◌, ◌∙◌, arith}
use Rattle.star_store.specs.Range.{range_length}
use Rattle.star_operators.specs.Slices.{as_range}
use Rattle.star_operators.proofs.Slicing.{picked_next}
use Rattle.star_operators.proofs.slices.picked_from.Goals as goal

pub loop-i-preserved : goal.loop-i-preserved
loop-i-preserved c =
    let h : c.loop-i.i < range_length (as_range c.args.span) = omega arith in
    rw (c.in_ok-push_at.ensures, c.place.ensures) (picked_next c.args.items.now c.loop-i.made.items (as_range c.args.span) (range_length (as_range c.args.span)) c.loop-i.i h ∙ c.loop-i.invariant)
