use Rattle.std.proofs.Common.{[], rules}
use Rattle.star_flow.proofs.Rising.{all_more, at_place, ready_more}
use Rattle.star_flow.proofs.graph.ready.Goals as goal

pub loop-n-preserved : goal.loop-n-preserved
loop-n-preserved c = rw c.in_ok-push.ensures.items (record {
  whole = all_more c.args.missing.now c.loop-n.ready.items _ (search rules) c.loop-n.invariant.whole;
  among = ready_more [] c.args.files.now c.loop-n.ready.items _ (at_place c.args.files.now c.loop-n.n-index c.loop-n-test.true) c.loop-n.invariant.among;
})
