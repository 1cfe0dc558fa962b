use Rattle.std.proofs.Common.{◌≡◌, ◌-◌}
use Rattle.star_syntax.specs.Grammar.{rounds}
use Rattle.star_syntax.specs.Language.{reads}
use Rattle.star_syntax.specs.Expressions.{primary, suffix, with_suffix}
use Rattle.star_syntax.proofs.reader.Grammar.primary.Given as goal

abbrev pub invariant-loop-turn : goal.invariant-loop-turn
invariant-loop-turn g l = reads l.self.depth primary l.fn.leaves ≡ rounds with_suffix (reads l.self.depth suffix) (l._turn-end - l._turn) l.left l.rest
