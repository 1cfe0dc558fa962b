use Rattle.std.proofs.Common.{sym, subst}
use Rattle.std.specs.Prelude.{All}
use Rattle.star_cache.specs.State.{BookState, HasEnded}
use Rattle.star_cache.proofs.cache.State.have_ended.Goals as goal

pub returns-clause-yes : goal.returns-clause-yes
returns-clause-yes g c = λ e. subst (λ (b : BookState g.row.P.Denot). All (HasEnded b) c.args.files.now) c.self.view_is (c.have_ended.ensures.yes e)

pub returns-clause-no : goal.returns-clause-no
returns-clause-no g c = λ e all. c.have_ended.ensures.no e (subst (λ (b : BookState g.row.P.Denot). All (HasEnded b) c.args.files.now) (sym c.self.view_is) all)
