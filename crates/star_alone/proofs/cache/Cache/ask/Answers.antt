use Rattle.std.proofs.Common.{◌≡◌, Some}
use Rattle.star_cache.specs.State.{awaited_by}
use Rattle.star_cache.specs.Tells.{IsCyclic}
use Rattle.star_outcome.specs.Views.{IsTold}
use Rattle.star_plan.specs.Plan.{loaded}
use Rattle.star_plan.specs.Results.{IsGood}
use Rattle.star_alone.proofs.Waits.{no_wait}
use Rattle.star_alone.proofs.cache.Cache.ask.Goals as goal

pub returns : goal.returns
returns g c = record {
  tells = no_wait (IsTold g.J.RunId.files g.J.RunId.plan) (IsGood g.J.RunId.plan) (IsCyclic (loaded g.J.RunId.plan) c.args.parent c.args.target) (awaited_by c.ask.new.self 0 ≡ Some c.args.target) c.args.target c.ask.result (c.ask.ensures.alone c.self.invariant.0) c.ask.ensures.tells;
}
