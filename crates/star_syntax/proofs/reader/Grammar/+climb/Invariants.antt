use Rattle.std.proofs.Common.{◌≡◌, ◌-◌}
use Rattle.star_syntax.specs.Grammar.{rounds}
use Rattle.star_syntax.specs.Language.{reads}
use Rattle.star_syntax.specs.Expressions.{climb, binary_of, round_at}
use Rattle.star_syntax.proofs.reader.Grammar.+climb.Given as goal

abbrev pub decreases-climb : goal.decreases-climb
decreases-climb g l = l.level

abbrev pub invariant-loop-turn : goal.invariant-loop-turn
invariant-loop-turn g l = reads l.self.depth (climb l.level) l.fn.leaves ≡ rounds binary_of (reads l.self.depth (round_at (l.level - 1))) (l._turn-end - l._turn) l.left l.rest
