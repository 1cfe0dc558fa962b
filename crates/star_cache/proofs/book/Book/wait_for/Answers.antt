use Rattle.star_cache.proofs.Await.{StandsFor-wait}
use Rattle.star_cache.proofs.RowsLemmas.{StandsFor-is, IsKept-from}
use Rattle.star_cache.proofs.book.Book.wait_for.Goals as goal

pub invariant_of-self : goal.invariant_of-self
invariant_of-self g c = (
  IsKept-from _ _ _ _ _ _ _ _ _
      (StandsFor-wait _ _ _ _ _ _ _ _ c.self.invariant.0 c.args.seat c.args.target _ _ c.self.view_is c.requires.there c.index-loader.ensures c.requires.running c.requires.away c.requires.loaded),
  c.self.invariant.1,
)

pub returns : goal.returns
returns g c =
    StandsFor-is _ _ _ _ _ _ _ _ _
    (StandsFor-wait _ _ _ _ _ _ _ _ c.self.invariant.0 c.args.seat c.args.target _ _ c.self.view_is c.requires.there c.index-loader.ensures c.requires.running c.requires.away c.requires.loaded)
