use Rattle.std.proofs.Common.{ap, subst, ◌∙◌}
use Rattle.star_outline.specs.Binders.{Covers}
use Rattle.star_outline.specs.Names.{has_name}
use Rattle.star_outline.proofs.Noted.{blocks_done, blocks_turn}
use Rattle.star_outline.proofs.binders.Binders.of.Goals as goal

pub loop-block-preserved : goal.loop-block-preserved
loop-block-preserved c =
    blocks_turn c.as_slice-block-items.result.now c.loop-block.block-index c.block-item.result c.loop-block.binders c.add_all.new.self
    c.loop-block-test.true c.block-item.is c.loop-block.invariant c.in_ok-add_all.ensures.kept
    (λ n h. c.in_ok-add_all.ensures.all n (ap (λ ns. has_name ns n) c.as_slice.ensures ∙ h))

pub returns : goal.returns
returns c =
    subst (λ bs. Covers bs c.loop-block.binders) c.as_slice-block-items.ensures
    (blocks_done c.as_slice-block-items.result.now c.loop-block.block-index c.loop-block.binders c.loop-block-test.false c.loop-block.auto.block-index-end c.loop-block.invariant)
