use Rattle.std.proofs.Common.{ℕ, take}
use Rattle.std.specs.Prelude.{All}
use Rattle.star_outcome.specs.Numbers.{Has, IsIn}
use Rattle.star_outcome.specs.declared.numbers.NumberWord.{NumberWord}
use Rattle.star_outcome.proofs.numbers.Numbers.has_all.Given as goal

abbrev pub invariant-loop-word : goal.invariant-loop-word
invariant-loop-word l = All (λ (w : NumberWord). (k : ℕ) → IsIn w k → Has l.self k) (take l.word-index l.words)
