use Rattle.star_outcome.proofs.Bits.{AreWordsBelow}
use Rattle.star_outcome.proofs.numbers.Numbers.words.Given as goal

abbrev pub invariant-loop-index : goal.invariant-loop-index
invariant-loop-index l = AreWordsBelow l.self-inside.words.items l.words.items l.index
