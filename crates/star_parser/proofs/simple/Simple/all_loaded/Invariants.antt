use Rattle.std.proofs.Common.{◌≡◌, ◌-◌}
use Rattle.star_syntax.specs.Grammar.{rounds}
use Rattle.star_syntax.specs.Expressions.{snoc}
use Rattle.star_syntax.specs.Statements.{all_loaded, next_loaded}
use Rattle.star_syntax.specs.Language.{reads}
use Rattle.star_parser.proofs.simple.Simple.all_loaded.Given as goal

abbrev pub invariant-loop-turn : goal.invariant-loop-turn
invariant-loop-turn l = reads l.self.depth all_loaded l.fn.leaves ≡ rounds snoc (reads l.self.depth next_loaded) (l._turn-end - l._turn) l.found l.rest
