use Rattle.std.proofs.Common.{◌≡◌, ◌∷◌}
use Rattle.star_meaning.specs.Texts.{joined}
use Rattle.star_builtin.proofs.print.push_texts.Given as goal

abbrev pub invariant-loop-text : goal.invariant-loop-text
invariant-loop-text l = l.line ≡ joined l.by (l.fn.line ∷ l.yielded)
