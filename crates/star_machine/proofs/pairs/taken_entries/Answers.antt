use Rattle.std.proofs.lemmas.List.{drop_more}
use Rattle.star_machine.specs.Pairs.{taken_entry}
use Rattle.star_machine.proofs.Each.{each_more}
use Rattle.star_machine.proofs.pairs.taken_entries.Goals as goal

pub loop-entry-preserved : goal.loop-entry-preserved
loop-entry-preserved c =
    let next = drop_more c.args.entries.now c.loop-entry.entry-index _ c.loop-entry-test.true in
    each_more (taken_entry c.args.line) _ _ _ _ _ _ _ _ _ next c.in_ok-key.ensures c.in_ok-push.ensures.pushed c.loop-entry.invariant
