use Rattle.std.proofs.Common.{◌≡◌, ◌-◌}
use Rattle.star_syntax.specs.Grammar.{rounds}
use Rattle.star_syntax.specs.Language.{reads}
use Rattle.star_syntax.specs.Expressions.{and_of, conjunction, next_negation}
use Rattle.star_syntax.proofs.reader.Grammar.conjunction.Given as goal

abbrev pub invariant-loop-turn : goal.invariant-loop-turn
invariant-loop-turn g l = reads l.self.depth conjunction l.fn.leaves ≡ rounds and_of (reads l.self.depth next_negation) (l._turn-end - l._turn) l.left l.rest
