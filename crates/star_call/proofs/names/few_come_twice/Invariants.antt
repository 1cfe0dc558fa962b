use Rattle.std.proofs.Common.{◌≡◌, length}
use Rattle.star_meaning.specs.Arguments.{comes_twice}
use Rattle.star_call.proofs.names.few_come_twice.Given as goal

abbrev pub invariant-loop-rest : goal.invariant-loop-rest
invariant-loop-rest l = comes_twice l.rest ≡ comes_twice l.named

abbrev pub decreases-loop-rest : goal.decreases-loop-rest
decreases-loop-rest l = length l.rest
