use Rattle.std.proofs.Common.{subst}
use Rattle.std.specs.Prelude.{All}
use Rattle.star_cache.specs.State.{BookState, HasEnded}
use Rattle.star_outcome.specs.Views.{ToldView}
use Rattle.star_alone.proofs.cache.Cache.have_ended.Goals as goal

pub returns : goal.returns
returns g c = λ e. subst (λ (b : BookState ToldView). All (HasEnded b) c.args.files.now) c.self.view_is (c.have_ended.ensures.yes e)
