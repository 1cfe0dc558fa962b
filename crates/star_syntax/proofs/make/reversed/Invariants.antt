use Rattle.std.proofs.Common.{◌≡◌, ◌++◌, length}
use Rattle.std.specs.Prelude.{reverse}
use Rattle.star_syntax.proofs.make.reversed.Given as goal

abbrev pub decreases-loop-last : goal.decreases-loop-last
decreases-loop-last l = length l.targets

abbrev pub invariant-loop-last : goal.invariant-loop-last
invariant-loop-last l = l.found ++ reverse l.targets ≡ reverse l.fn.targets
