use Rattle.std.proofs.Common.{sym, subst}
use Rattle.std.specs.Prelude.{All}
use Rattle.std.proofs.lemmas.List.Elements.{All-append}
use Rattle.star_plan.specs.Shelves.{IsOwn, Needs}
use Rattle.star_outcome.specs.Gathered.{AreNeeded, IsListed}
use Rattle.star_outcome.specs.Reaches.{ReachView}
use Rattle.star_outcome.proofs.Stores.{back_of, front_of}
use Rattle.star_outcome.proofs.reachable.ReachableStores.add_row.Goals as goal

pub add_blocks-requires : goal.add_blocks-requires
add_blocks-requires g c =
    subst (AreNeeded g.J.RunId.plan c.args.self.now.file) (sym c.blocks-2.ensures)
    (front_of (λ (r : ReachView). Needs g.J.RunId.plan c.args.self.now.file r.number × IsOwn g.J.RunId.plan r.number r.store) c.args.stores.now.base c.args.stores.now.more c.requires)

pub add_each-requires : goal.add_each-requires
add_each-requires g c =
    subst (λ n. AreNeeded g.J.RunId.plan n c.more.result.now) (sym c.in_ok-add_blocks.ensures.file)
    (subst (AreNeeded g.J.RunId.plan c.args.self.now.file) (sym c.more.ensures)
    (back_of (λ (r : ReachView). Needs g.J.RunId.plan c.args.self.now.file r.number × IsOwn g.J.RunId.plan r.number r.store) c.args.stores.now.base c.args.stores.now.more c.requires))

pub returns-clause-there : goal.returns-clause-there
returns-clause-there g c =
    let P : ReachView → Type 0 = λ r. IsListed c.add_each.new.self.reaches r.number in
    All-append P c.args.stores.now.base c.args.stores.now.more
    (subst (All P) c.blocks-2.ensures (λ i d lt. c.in_ok-add_each.ensures.stays _ (c.in_ok-add_blocks.ensures.there i d lt)))
    (subst (All P) c.more.ensures c.in_ok-add_each.ensures.there)
