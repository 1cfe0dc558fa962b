use Rattle.std.proofs.Common.{◌<◌, ℕ}
use Rattle.std.specs.Prelude.{Contains, IsSome}
use Rattle.star_reading.specs.Readings.{read_at}
use Rattle.star_host.proofs.settle.reached.Given as goal

abbrev pub invariant-loop-n : goal.invariant-loop-n
invariant-loop-n l = (m : ℕ) → m < l.n → IsSome (read_at l.reads m) → Contains l.numbers.items m
