use Rattle.std.proofs.Common.{◌≡◌, length}
use Rattle.star_syntax.specs.Leaves.{means_itself}
use Rattle.star_syntax.proofs.leaf.means_itself.Given as goal

abbrev pub invariant-loop-rest : goal.invariant-loop-rest
invariant-loop-rest l = means_itself l.inside ≡ means_itself l.rest

abbrev pub decreases-loop-rest : goal.decreases-loop-rest
decreases-loop-rest l = length l.rest
