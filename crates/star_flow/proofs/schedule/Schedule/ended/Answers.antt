use Rattle.std.proofs.Common.{◌∙◌}
use Rattle.star_flow.proofs.Rising.{at_place, ended_then, ready_then}
use Rattle.star_flow.proofs.schedule.Schedule.ended.Goals as goal

pub loop-n-preserved : goal.loop-n-preserved
loop-n-preserved c = record {
  missing = ended_then c.args.self.now c.loop-n.self c.load_ended.new.self c.args.importers.now c.loop-n.n-index c.loop-n-test.true c.loop-n.invariant.missing c.load_ended.ensures.missing;
  ready = ready_then c.args.self.now.ready c.loop-n.self.ready c.load_ended.new.self.ready c.args.importers.now _ (at_place c.args.importers.now c.loop-n.n-index c.loop-n-test.true) c.loop-n.invariant.ready c.load_ended.ensures.ready;
  running = c.load_ended.ensures.running ∙ c.loop-n.invariant.running;
}
