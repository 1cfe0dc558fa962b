use Rattle.star_cache.proofs.Await.{StandsFor-wake}
use Rattle.star_cache.proofs.RowsLemmas.{StandsFor-is, IsKept-from}
use Rattle.star_cache.proofs.book.Book.stop_waiting.Goals as goal

pub invariant_of-self : goal.invariant_of-self
invariant_of-self g c = (
  IsKept-from _ _ _ _ _ _ _ _ _ (StandsFor-wake _ _ _ _ _ _ _ _ c.self.invariant.0 c.args.seat _ _ c.self.view_is c.requires.there c.index-loader.ensures),
  c.self.invariant.1,
)

pub returns : goal.returns
returns g c = StandsFor-is _ _ _ _ _ _ _ _ _ (StandsFor-wake _ _ _ _ _ _ _ _ c.self.invariant.0 c.args.seat _ _ c.self.view_is c.requires.there c.index-loader.ensures)
