use Rattle.star_cache.proofs.Headlines.{headline}
use Rattle.star_cache.proofs.book.Book.begun.Goals as goal

pub returns-clause-headline : goal.returns-clause-headline
returns-clause-headline g c = rw (← c.self.view_is) (headline g.P.Product.loads g.P.Product.IsReached g.P.Product.IsRight _ c.self.invariant.0.lawful)
