use Rattle.std.proofs.Common.{◌≡◌, drop, map}
use Rattle.starload.specs.Options.{has_word}
use Rattle.starload.proofs.command.has_word.Given as goal

abbrev pub invariant-loop-word : goal.invariant-loop-word
invariant-loop-word l = has_word l.value (map (λ w. w.now) (drop l.word-index l.words)) ≡ has_word l.value (map (λ w. w.now) l.words)
