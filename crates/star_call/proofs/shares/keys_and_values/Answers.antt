use Rattle.star_call.proofs.Seen.{drop_next}
use Rattle.star_call.proofs.Named.{named_more}
use Rattle.star_call.proofs.shares.keys_and_values.Goals as goal

pub loop-value-preserved : goal.loop-value-preserved
loop-value-preserved c =
    let next = drop_next c.args.named.now c.loop-value.value-index c.value-item.result c.loop-value-test.true c.value-item.is in
    named_more _ _ _ _ _ _ _ _ _ _ next c.in_ok-key.ensures c.in_ok-push.ensures.pushed c.loop-value.invariant
