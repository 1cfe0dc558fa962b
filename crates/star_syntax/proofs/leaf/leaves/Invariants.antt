use Rattle.std.proofs.Common.{◌≡◌, ◌++◌, ◌+◌, length}
use Rattle.star_syntax.specs.Leaves.{leaves_of, leaves_from}
use Rattle.star_syntax.proofs.leaf.leaves.Given as goal

abbrev pub invariant-loop-rest : goal.invariant-loop-rest
invariant-loop-rest l =
    (leaves_of l.fn.source l.tokens ≡ l.all ++ leaves_from l.fn.source l.number l.rest)
    × (l.number + length l.rest ≡ length l.tokens)

abbrev pub decreases-loop-rest : goal.decreases-loop-rest
decreases-loop-rest l = length l.rest
