use Rattle.star_outcome.specs.Reaches.{row_of}
use Rattle.star_outcome.proofs.Stores.{all_there, good_stores, needed_of, on_ok}
use Rattle.star_outcome.proofs.reachable.ReachableStores.add_load.Goals as goal

pub add_row-requires : goal.add_row-requires
add_row-requires g c =
    needed_of g.J.RunId.plan c.args.self.now.file c.args.it.now.number (row_of c.deref.result.now.stores) c.requires.load
    (good_stores g.J.RunId.plan c.args.it.now.number c.args.it.now c.in-Good.body c.deref.result.now c.in-Good.is c.deref.ensures c.requires.good.0)

pub returns-clause-there : goal.returns-clause-there
returns-clause-there g c = on_ok c.add_row.result
    (λ all. all_there g.J.RunId.plan c.args.it.now.number (row_of c.deref.result.now.stores) c.add_row.new.self.reaches
    (good_stores g.J.RunId.plan c.args.it.now.number c.args.it.now c.in-Good.body c.deref.result.now c.in-Good.is c.deref.ensures c.requires.good.0) all)
    c.add_row.ensures.there
