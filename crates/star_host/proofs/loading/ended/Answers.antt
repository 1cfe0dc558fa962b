use Rattle.std.proofs.Common.{sym, ◌∙◌}
use Rattle.star_host.proofs.Ends.{load_there, never_unread}
use Rattle.star_host.proofs.loading.ended.Goals as goal

pub unreachable-requires : goal.unreachable-requires
unreachable-requires g c = never_unread g.J.RunId.files g.J.RunId.plan c.args.common.now.reads.now c.number-n.result c.requires.world.row_is c.number-n.ensures.asked c.in_default.ensures c.in_default-fault_at.ensures

pub unreachable-requires-in_default-load : goal.unreachable-requires-in_default-load
unreachable-requires-in_default-load g c = load_there g.J.RunId.plan c.args.common.now.reads.now c.number-n.result c.in-Some-failed.index c.failed.result c.requires.world.row_is c.in-Some-failed.is (rw c.number-n.ensures.number c.failed.ensures.bad) (sym c.load.ensures.load ∙ c.in_default-load.is)
