use Rattle.std.proofs.Common.{◌≡◌, ◌-◌}
use Rattle.star_syntax.specs.Grammar.{rounds}
use Rattle.star_syntax.specs.Expressions.{snoc, list_of_arguments, next_argument}
use Rattle.star_syntax.specs.Language.{reads}
use Rattle.star_syntax.proofs.reader.Grammar.list_of_arguments.Given as goal

abbrev pub invariant-loop-turn : goal.invariant-loop-turn
invariant-loop-turn g l = reads l.self.depth list_of_arguments l.fn.leaves ≡ rounds snoc (reads l.self.depth next_argument) (l._turn-end - l._turn) l.found l.rest
