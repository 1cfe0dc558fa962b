use Rattle.std.proofs.Common.{sym, subst}
use Rattle.std.specs.Prelude.{All}
use Rattle.star_cache.specs.State.{BookState, HasEnded}
use Rattle.star_cache.proofs.cache.LoadCache.close_ended.Goals as goal

pub returns-clause-ended : goal.returns-clause-ended
returns-clause-ended g c = subst (λ (b : BookState g.row.P.Denot). All (HasEnded b) c.args.files.now) (sym c.closed.ensures.book) (c.have_ended.ensures.yes c.if-not-have_ended.false)
