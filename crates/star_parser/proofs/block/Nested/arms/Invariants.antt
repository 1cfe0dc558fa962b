use Rattle.std.proofs.Common.{◌≡◌, ◌-◌}
use Rattle.star_syntax.specs.Grammar.{rounds}
use Rattle.star_syntax.specs.Expressions.{snoc}
use Rattle.star_syntax.specs.Statements.{arms, next_arm}
use Rattle.star_syntax.specs.Language.{reads}
use Rattle.star_parser.proofs.block.Nested.arms.Given as goal

abbrev pub invariant-loop-turn : goal.invariant-loop-turn
invariant-loop-turn g l = reads l.self.depth arms l.fn.leaves ≡ rounds snoc (reads l.self.depth next_arm) (l._turn-end - l._turn) l.found l.rest
