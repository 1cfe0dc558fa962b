use Rattle.std.proofs.Common.{length, ◌-◌}
use Rattle.star_editor.proofs.walk.line_end.Given as goal

abbrev pub decreases-loop-at : goal.decreases-loop-at
decreases-loop-at l = length l.tokens - l.at
