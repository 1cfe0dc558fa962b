use Rattle.std.proofs.Common.{◌≡◌, ◌-◌}
use Rattle.star_syntax.specs.Grammar.{rounds}
use Rattle.star_syntax.specs.Expressions.{snoc}
use Rattle.star_syntax.specs.Statements.{small_statements, next_small}
use Rattle.star_syntax.specs.Language.{reads}
use Rattle.star_parser.proofs.simple.Simple.small_statements.Given as goal

abbrev pub invariant-loop-turn : goal.invariant-loop-turn
invariant-loop-turn l = reads l.self.depth small_statements l.fn.leaves ≡ rounds snoc (reads l.self.depth next_small) (l._turn-end - l._turn) l.found l.rest
