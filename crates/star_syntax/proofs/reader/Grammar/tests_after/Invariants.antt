use Rattle.std.proofs.Common.{◌≡◌, ◌-◌, length}
use Rattle.star_syntax.specs.Grammar.{rounds}
use Rattle.star_syntax.specs.Language.{reads}
use Rattle.star_syntax.specs.Expressions.{next_test, snoc}
use Rattle.star_syntax.proofs.reader.Grammar.tests_after.Given as goal

abbrev pub invariant-loop-turn : goal.invariant-loop-turn
invariant-loop-turn g l = rounds snoc (reads l.self.depth next_test) (length l.fn.leaves) l.fn.found l.fn.leaves ≡ rounds snoc (reads l.self.depth next_test) (l._turn-end - l._turn) l.found l.rest
