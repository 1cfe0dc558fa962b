use Rattle.std.proofs.Common.{◌∙◌, ◌<◌, arith}
use Rattle.star_machine.proofs.Turns.{collected}
use Rattle.star_machine.proofs.machine.Machine.take_items.Goals as goal

pub loop-i-preserved : goal.loop-i-preserved
loop-i-preserved c =
    let h : c.loop-i.i < c.args.count = omega arith in
    rw c.in_ok-push.ensures.items (collected _ _ _ _ _ _ _ h c.in_ok-take_item.ensures.answer ∙ c.loop-i.invariant)
