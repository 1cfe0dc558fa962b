use Rattle.std.proofs.Common.{◌≡◌, take}
use Rattle.star_outcome.proofs.lasting.lines_again.Given as goal

abbrev pub invariant-loop-line : goal.invariant-loop-line
invariant-loop-line l = l.again.items ≡ take l.line-index l.lines
