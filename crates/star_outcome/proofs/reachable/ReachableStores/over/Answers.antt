use Rattle.star_outcome.specs.Reaches.{row_of}
use Rattle.star_outcome.proofs.Stores.{good_stores, needed_of}
use Rattle.star_outcome.proofs.reachable.ReachableStores.over.Goals as goal

pub over_row-requires : goal.over_row-requires
over_row-requires g c =
    needed_of g.J.RunId.plan c.args.file c.args.it.now.number (row_of c.deref.result.now.stores) c.requires.load
    (good_stores g.J.RunId.plan c.args.it.now.number c.args.it.now c.in-Good.body c.deref.result.now c.in-Good.is c.deref.ensures c.requires.good.0)
