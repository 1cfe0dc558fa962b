use Rattle.std.proofs.Common.{◌≡◌, ◌-◌}
use Rattle.star_syntax.specs.Grammar.{rounds}
use Rattle.star_syntax.specs.Expressions.{snoc, list_of_parameters, next_parameter}
use Rattle.star_syntax.specs.Language.{reads}
use Rattle.star_syntax.proofs.reader.Grammar.list_of_parameters.Given as goal

abbrev pub invariant-loop-turn : goal.invariant-loop-turn
invariant-loop-turn g l = reads l.self.depth list_of_parameters l.fn.leaves ≡ rounds snoc (reads l.self.depth next_parameter) (l._turn-end - l._turn) l.found l.rest
