use Rattle.star_outcome.proofs.Stores.{load_good}
use Rattle.star_outcome.proofs.reachable.begun.Goals as goal

pub over-requires-clause-good : goal.over-requires-clause-good
over-requires-clause-good g c = load_good g.J.RunId.plan c.args.n c.in-Some.i c.args.modules.now c.index-modules-i.result c.requires c.in-Some.ensures c.index-modules-i.is
