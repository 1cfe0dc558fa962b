use Rattle.std.proofs.Common.{subst}
use Rattle.star_outcome.specs.Numbers.{AreNumbersOf, Has}
use Rattle.star_outcome.proofs.Bits.{has_none}
use Rattle.star_outcome.proofs.Blocks.{numbers_of_block}
use Rattle.star_outcome.proofs.store_row.numbers_in.Goals as goal

pub loop-block-init : goal.loop-block-init
loop-block-init c = λ k h. absurd (has_none k (subst (λ ws. Has ws k) c.new-numbers.ensures h))

pub loop-block-preserved : goal.loop-block-preserved
loop-block-preserved c =
    numbers_of_block c.args.blocks.now c.loop-block.block-index c.block-item.result c.numbers.result.now c.loop-block.numbers c.insert_all.new.self c.loop-block-test.true c.block-item.is
    (subst (AreNumbersOf c.numbers.result.now) c.deref.ensures c.numbers.ensures) c.in_ok-insert_all.ensures c.loop-block.invariant
