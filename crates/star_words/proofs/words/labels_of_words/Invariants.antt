use Rattle.std.proofs.Common.{take}
use Rattle.star_words.specs.Named.{AreNamed, texts_of}
use Rattle.star_words.proofs.words.labels_of_words.Given as goal

abbrev pub invariant-loop-word : goal.invariant-loop-word
invariant-loop-word l = AreNamed l.here (texts_of (take l.word-index l.words)) (texts_of l.labels.items)
