use Rattle.std.proofs.Common.{◌≡◌, ◌-◌}
use Rattle.star_syntax.specs.Grammar.{rounds}
use Rattle.star_syntax.specs.Language.{reads}
use Rattle.star_syntax.specs.Expressions.{disjunction, next_conjunction, or_of}
use Rattle.star_syntax.proofs.reader.Grammar.disjunction.Given as goal

abbrev pub invariant-loop-turn : goal.invariant-loop-turn
invariant-loop-turn g l = reads l.self.depth disjunction l.fn.leaves ≡ rounds or_of (reads l.self.depth next_conjunction) (l._turn-end - l._turn) l.left l.rest
