use Rattle.std.proofs.Common.{◌≡◌, ◌-◌}
use Rattle.star_syntax.specs.Grammar.{rounds}
use Rattle.star_syntax.specs.Language.{reads}
use Rattle.star_syntax.specs.Expressions.{further_clauses, next_clause, snoc}
use Rattle.star_syntax.proofs.reader.Grammar.further_clauses.Given as goal

abbrev pub invariant-loop-turn : goal.invariant-loop-turn
invariant-loop-turn g l = reads l.self.depth further_clauses l.fn.leaves ≡ rounds snoc (reads l.self.depth next_clause) (l._turn-end - l._turn) l.found l.rest
