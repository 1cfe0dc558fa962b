use Rattle.star_host.proofs.Settled.{read_reached}
use Rattle.star_host.proofs.settle.settle_one.Goals as goal

pub load-requires-clause-root : goal.load-requires-clause-root
load-requires-clause-root g c = (c.requires.within, read_reached g.J.RunId.files g.J.RunId.plan c.args.common.now.reads.now c.args.n c.requires.world.row_is c.requires.world.planned (c.is_read.ensures.yes c.if-not-is_read.false))
