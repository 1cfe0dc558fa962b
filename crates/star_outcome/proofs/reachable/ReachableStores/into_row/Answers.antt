use Rattle.std.proofs.Common.{ap, subst}
use Rattle.star_outcome.specs.Gathered.{AreNeeded, GivenView}
use Rattle.star_outcome.specs.Reaches.{row_of}
use Rattle.star_outcome.proofs.reachable.ReachableStores.into_row.Goals as goal

pub returns-clause-needed : goal.returns-clause-needed
returns-clause-needed g c = subst (λ n. AreNeeded g.J.RunId.plan n (row_of c.self.inside.reaches)) (ap (λ (v : GivenView). v.file) c.self.view_is) c.self.invariant.needed
