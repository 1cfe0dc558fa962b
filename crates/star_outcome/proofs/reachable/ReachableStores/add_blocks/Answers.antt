use Rattle.std.proofs.Common.{◌≡◌, ◌∙◌, ℕ, ap, arith, subst, sym}
use Rattle.std.specs.Prelude.{All}
use Rattle.star_plan.specs.Shelves.{IsOwn, Needs}
use Rattle.star_outcome.specs.Gathered.{AreNeeded, GivenView, IsListed}
use Rattle.star_outcome.specs.Numbers.{Has}
use Rattle.star_outcome.specs.Reaches.{ReachView, row_of}
use Rattle.star_outcome.proofs.Blocks.{block_listed, block_stores, more_blocks, of_block, of_blocks}
use Rattle.star_outcome.proofs.reachable.ReachableStores.add_blocks.Goals as goal

pub add_each-requires : goal.add_each-requires
add_each-requires g c =
    let same : c.stores.result.now ≡ block_stores c.block-item.result = c.stores.ensures ∙ c.deref-in-loop-block.ensures in
    subst (λ n. AreNeeded g.J.RunId.plan n c.stores.result.now) (sym c.loop-block.invariant.file)
    (subst (AreNeeded g.J.RunId.plan c.args.self.now.file) (sym same)
    (of_block (λ (r : ReachView). Needs g.J.RunId.plan c.args.self.now.file r.number × IsOwn g.J.RunId.plan r.number r.store) c.args.blocks.now c.loop-block.block-index c.block-item.result c.loop-block-test.true c.block-item.is c.requires))

pub loop-block-preserved-then-has_all : goal.loop-block-preserved-then-has_all
loop-block-preserved-then-has_all g c =
    let row : row_of c.self.inside.reaches ≡ c.loop-block.self.reaches = ap (λ (v : GivenView). v.reaches) c.self.view_is in
    let listed : (k : ℕ) → Has c.self.inside.numbers k → IsListed c.loop-block.self.reaches k = λ k h. subst (λ rs. IsListed rs k) row (c.self.invariant.listed k h) in
    let there : All (λ (r : ReachView). IsListed c.loop-block.self.reaches r.number) c.deref.result.now = block_listed c.numbers.result.now c.self.inside.numbers c.deref.result.now c.loop-block.self.reaches c.numbers.ensures (c.has_all.ensures c.if-has_all.true) listed in
    record {
      file = c.loop-block.invariant.file;
      stays = c.loop-block.invariant.stays;
      there = more_blocks c.loop-block.self.reaches c.loop-block.self.reaches c.args.blocks.now c.loop-block.block-index c.block-item.result c.loop-block-test.true c.block-item.is (λ k h. h) c.loop-block.invariant.there (subst (All (λ (r : ReachView). IsListed c.loop-block.self.reaches r.number)) c.deref.ensures there);
    }

pub loop-block-preserved : goal.loop-block-preserved
loop-block-preserved g c =
    let same : c.stores.result.now ≡ block_stores c.block-item.result = c.stores.ensures ∙ c.deref-in-loop-block.ensures in
    record {
      file = c.in_ok-add_each.ensures.file ∙ c.loop-block.invariant.file;
      stays = λ k h. c.in_ok-add_each.ensures.stays k (c.loop-block.invariant.stays k h);
      there = more_blocks c.loop-block.self.reaches c.add_each.new.self.reaches c.args.blocks.now c.loop-block.block-index c.block-item.result c.loop-block-test.true c.block-item.is c.in_ok-add_each.ensures.stays c.loop-block.invariant.there (subst (All (λ (r : ReachView). IsListed c.add_each.new.self.reaches r.number)) same c.in_ok-add_each.ensures.there);
    }

pub returns-clause-there : goal.returns-clause-there
returns-clause-there g c = of_blocks (λ (r : ReachView). IsListed c.loop-block.self.reaches r.number) c.args.blocks.now (λ i d less. c.loop-block.invariant.there i d (omega (arith, less, c.loop-block-test.false)))
