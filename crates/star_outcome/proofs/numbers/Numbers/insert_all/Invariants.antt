use Rattle.std.proofs.Common.{◌⊎◌, ℕ}
use Rattle.star_outcome.specs.Numbers.{Has, HasAmong}
use Rattle.star_outcome.proofs.numbers.Numbers.insert_all.Given as goal

abbrev pub invariant-loop-word : goal.invariant-loop-word
invariant-loop-word l = (k : ℕ) → Has l.self k → HasAmong l.words k ⊎ Has l.initial.self k
