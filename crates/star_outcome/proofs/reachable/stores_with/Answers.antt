use Rattle.std.proofs.Common.{refl, sym, subst}
use Rattle.star_outcome.specs.Reaches.{row_of}
use Rattle.star_outcome.specs.Views.{AreStores}
use Rattle.star_outcome.proofs.Stores.{settled_are, stores_are}
use Rattle.star_outcome.proofs.reachable.stores_with.Goals as goal

pub returns : goal.returns
returns g c =
    settled_are g.J.RunId.plan c.args.own.number (row_of c.push.new.self) c.settled.result c.settled.ensures
    (subst (AreStores g.J.RunId.plan c.args.own.number) (sym c.in_ok-push.ensures.added)
    (stores_are g.J.RunId.plan c.args.own.number (row_of c.args.reaches) c.args.own c.requires.needed c.requires.all refl c.requires.own))
