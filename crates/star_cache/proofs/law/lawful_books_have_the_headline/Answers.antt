use Rattle.star_cache.proofs.Headlines.{headline}
use Rattle.star_cache.proofs.law.lawful_books_have_the_headline.Goals as goal

pub returns : goal.returns
returns g c = headline g.P.Product.loads g.P.Product.IsReached g.P.Product.IsRight
