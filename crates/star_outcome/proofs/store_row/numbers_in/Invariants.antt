use Rattle.std.proofs.Common.{ℕ}
use Rattle.star_outcome.specs.Gathered.{IsListed}
use Rattle.star_outcome.specs.Numbers.{Has}
use Rattle.star_outcome.specs.Reaches.{shared_of}
use Rattle.star_outcome.proofs.store_row.numbers_in.Given as goal

abbrev pub invariant-loop-block : goal.invariant-loop-block
invariant-loop-block l = (k : ℕ) → Has l.numbers k → IsListed (shared_of l.blocks) k
