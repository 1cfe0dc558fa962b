use Rattle.std.proofs.Common.{◌≡◌, length}
use Rattle.star_syntax.specs.Names.{is_word}
use Rattle.star_syntax.proofs.name.is_word.Given as goal

abbrev pub invariant-loop-rest : goal.invariant-loop-rest
invariant-loop-rest l = is_word l.text ≡ is_word l.rest

abbrev pub decreases-loop-rest : goal.decreases-loop-rest
decreases-loop-rest l = length l.rest
