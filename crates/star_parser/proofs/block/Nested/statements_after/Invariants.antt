use Rattle.std.proofs.Common.{◌≡◌, ◌-◌, length}
use Rattle.star_syntax.specs.Grammar.{rounds, run, statement}
use Rattle.star_syntax.specs.Statements.{append}
use Rattle.star_syntax.specs.Language.{rule}
use Rattle.star_parser.proofs.block.Nested.statements_after.Given as goal

abbrev pub invariant-loop-turn : goal.invariant-loop-turn
invariant-loop-turn g l = rounds append (run rule l.self.depth statement) (length l.fn.leaves) l.fn.found l.fn.leaves ≡ rounds append (run rule l.self.depth statement) (l._turn-end - l._turn) l.found l.rest
