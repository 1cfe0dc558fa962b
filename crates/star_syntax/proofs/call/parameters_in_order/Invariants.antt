use Rattle.std.proofs.Common.{◌≡◌, length}
use Rattle.star_syntax.specs.Keeps.{parameters_in_order}
use Rattle.star_syntax.proofs.call.parameters_in_order.Given as goal

abbrev pub decreases-loop-rest : goal.decreases-loop-rest
decreases-loop-rest l = length l.rest

abbrev pub invariant-loop-rest : goal.invariant-loop-rest
invariant-loop-rest l = parameters_in_order l.rest ≡ parameters_in_order l.fn.parameters
