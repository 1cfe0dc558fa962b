use Rattle.std.proofs.Common.{◌≡◌, ◌<◌, ℕ}
use Rattle.std.specs.Prelude.{slice_index_or}
use Rattle.star_outcome.specs.Gathered.{IsListed}
use Rattle.star_outcome.specs.Reaches.{ReachView}
use Rattle.star_outcome.proofs.reachable.ReachableStores.add_each.Given as goal

abbrev pub invariant-loop-reach : goal.invariant-loop-reach
invariant-loop-reach g l = record {
  file : l.self.file ≡ l.initial.self.file;
  stays : (k : ℕ) → IsListed l.initial.self.reaches k → IsListed l.self.reaches k;
  there : (k : ℕ) (d : ReachView) → k < l.reach-index → IsListed l.self.reaches (slice_index_or l.stores k d).number;
}
