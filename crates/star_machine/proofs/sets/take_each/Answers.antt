use Rattle.std.proofs.lemmas.List.{drop_more}
use Rattle.star_meaning.specs.Sets.{take_elements}
use Rattle.star_machine.proofs.Each.{each_more}
use Rattle.star_machine.proofs.sets.take_each.Goals as goal

pub loop-other-preserved : goal.loop-other-preserved
loop-other-preserved c =
    let next = drop_more c.args.others.now c.loop-other.other-index _ c.loop-other-test.true in
    each_more (take_elements c.args.setting.now c.args.levels c.args.line) _ _ _ _ _ _ _ _ _ next c.in_ok-take_elements.ensures c.in_ok-push.ensures.items c.loop-other.invariant
