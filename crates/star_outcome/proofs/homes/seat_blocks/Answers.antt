use Rattle.std.proofs.Common.{◌≡◌, ◌∙◌, ap, fold, sym, take}
use Rattle.std.proofs.lemmas.List.Sums.{fold-append}
use Rattle.star_outcome.specs.Homes.{seated}
use Rattle.star_outcome.specs.Reaches.{shared_of}
use Rattle.star_outcome.proofs.Blocks.{block_stores, shared_more}
use Rattle.star_outcome.proofs.homes.seat_blocks.Goals as goal

pub loop-block-preserved : goal.loop-block-preserved
loop-block-preserved c =
    let bs = c.args.blocks.now in
    let i = c.loop-block.block-index in
    let h = c.args.homes.now in
    let before = shared_of (take i bs) in
    let same : c.stores.result.now ≡ block_stores c.block-item.result = c.stores.ensures ∙ c.deref.ensures in
    c.in_ok-seat_each.ensures
    ∙ (ap (λ s. fold seated s c.stores.result.now) c.loop-block.invariant
    ∙ (ap (λ rs. fold seated (fold seated h before) rs) same
    ∙ (sym (fold-append seated h before (block_stores c.block-item.result))
    ∙ ap (λ rs. fold seated h rs) (sym (shared_more bs i c.block-item.result c.loop-block-test.true c.block-item.is)))))
