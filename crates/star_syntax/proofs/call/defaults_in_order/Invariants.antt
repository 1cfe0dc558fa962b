use Rattle.std.proofs.Common.{◌≡◌, length}
use Rattle.star_syntax.specs.Keeps.{defaults_in_order}
use Rattle.star_syntax.proofs.call.defaults_in_order.Given as goal

abbrev pub decreases-loop-rest : goal.decreases-loop-rest
decreases-loop-rest l = length l.rest

abbrev pub invariant-loop-rest : goal.invariant-loop-rest
invariant-loop-rest l = defaults_in_order l.rest ≡ defaults_in_order l.fn.parameters
