use Rattle.std.proofs.Common.{◌∙◌, ap}
use Rattle.star_outcome.specs.Reaches.{shared_of}
use Rattle.star_outcome.proofs.Blocks.{shared_push}
use Rattle.star_outcome.proofs.store_row.share_each.Goals as goal

pub loop-block-preserved : goal.loop-block-preserved
loop-block-preserved c =
    ap shared_of c.in_ok-push.ensures.items
    ∙ shared_push c.args.blocks.now c.loop-block.shared.items c.loop-block.block-index c.block-item.result c.in_ok-try_clone.field-0 c.loop-block-test.true c.block-item.is c.in_ok-try_clone.ensures c.loop-block.invariant
