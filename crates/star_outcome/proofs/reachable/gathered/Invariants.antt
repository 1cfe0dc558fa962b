use Rattle.std.proofs.Common.{◌≡◌, ◌<◌, ℕ, Some}
use Rattle.std.specs.Prelude.{slice_get}
use Rattle.star_cache.specs.State.{Loads}
use Rattle.star_cache.specs.Walk.{LeadsTo}
use Rattle.star_plan.specs.Plan.{loaded}
use Rattle.star_outcome.specs.Gathered.{IsListed}
use Rattle.star_outcome.proofs.reachable.gathered.Given as goal

abbrev pub invariant-loop-it : goal.invariant-loop-it
invariant-loop-it g l = record {
  file : l.given.file ≡ l.n;
  there : (i m : ℕ) → i < l.it-index → slice_get (loaded g.J.RunId.plan l.n) i ≡ Some m → (k : ℕ) → LeadsTo (Loads (loaded g.J.RunId.plan)) m k → IsListed l.given.reaches k;
}
