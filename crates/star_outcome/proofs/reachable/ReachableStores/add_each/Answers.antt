use Rattle.std.proofs.Common.{◌∙◌}
use Rattle.star_outcome.proofs.Stores.{more_there}
use Rattle.star_outcome.proofs.reachable.ReachableStores.add_each.Goals as goal

pub loop-reach-preserved : goal.loop-reach-preserved
loop-reach-preserved g c = record {
  file = c.in_ok-add.ensures.file ∙ c.loop-reach.invariant.file;
  stays = λ k h. c.in_ok-add.ensures.stays k (c.loop-reach.invariant.stays k h);
  there = more_there c.add.new.self.reaches c.args.stores.now c.loop-reach.reach-index c.reach-item.result c.reach-item.is c.loop-reach-test.true (λ k d less. c.in_ok-add.ensures.stays _ (c.loop-reach.invariant.there k d less)) c.in_ok-add.ensures.there;
}
