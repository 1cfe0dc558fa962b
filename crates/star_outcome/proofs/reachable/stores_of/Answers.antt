use Rattle.std.proofs.Common.{ℕ, sym, subst}
use Rattle.std.specs.Prelude.{IfOk}
use Rattle.star_plan.specs.Shelves.{IsOwn, Needs}
use Rattle.star_outcome.specs.Gathered.{AreNeeded, IsListed}
use Rattle.star_outcome.specs.Reaches.{ReachView, row_of}
use Rattle.star_outcome.specs.Views.{AreStores}
use Rattle.star_outcome.proofs.reachable.stores_of.Goals as goal

pub stores_with-requires-clause-own : goal.stores_with-requires-clause-own
stores_with-requires-clause-own g c = subst (λ (r : ReachView). IsOwn g.J.RunId.plan r.number r.store) (sym c.in_ok-own.ensures) c.requires.own

pub stores_with-requires-clause-needed : goal.stores_with-requires-clause-needed
stores_with-requires-clause-needed g c = subst (λ (r : ReachView). AreNeeded g.J.RunId.plan r.number (row_of c.args.reaches)) (sym c.in_ok-own.ensures) c.requires.needed

pub stores_with-requires-clause-all : goal.stores_with-requires-clause-all
stores_with-requires-clause-all g c =
    subst (λ (r : ReachView). (k : ℕ) → Needs g.J.RunId.plan r.number k → IsListed (row_of c.args.reaches) k) (sym c.in_ok-own.ensures) c.requires.all

pub returns : goal.returns
returns g c = subst (λ (r : ReachView). IfOk c.stores_with.result (λ s. AreStores g.J.RunId.plan r.number (row_of s))) c.in_ok-own.ensures c.stores_with.ensures
