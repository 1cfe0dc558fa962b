use Rattle.std.proofs.Common.{◌≡◌, ℕ}
use Rattle.star_outcome.specs.Gathered.{IsListed}
use Rattle.star_outcome.proofs.Blocks.{AreThereBelow}
use Rattle.star_outcome.proofs.reachable.ReachableStores.add_blocks.Given as goal

abbrev pub invariant-loop-block : goal.invariant-loop-block
invariant-loop-block g l = record {
  file : l.self.file ≡ l.initial.self.file;
  stays : (k : ℕ) → IsListed l.initial.self.reaches k → IsListed l.self.reaches k;
  there : AreThereBelow l.self.reaches l.blocks l.block-index;
}
