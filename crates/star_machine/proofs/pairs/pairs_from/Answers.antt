use Rattle.std.proofs.lemmas.List.{drop_more}
use Rattle.star_meaning.specs.Pairs.{pair_of}
use Rattle.star_machine.proofs.Each.{each_more}
use Rattle.star_machine.proofs.pairs.pairs_from.Goals as goal

pub loop-item-preserved : goal.loop-item-preserved
loop-item-preserved c =
    let next = drop_more c.args.items.now c.loop-item.item-index _ c.loop-item-test.true in
    each_more (pair_of c.args.setting.now c.args.line) _ _ _ _ _ _ _ _ _ next c.in_ok-key.ensures c.in_ok-push.ensures.pushed c.loop-item.invariant
