use Rattle.std.proofs.Common.{◌≡◌, length}
use Rattle.star_syntax.specs.Keeps.{named_in_order}
use Rattle.star_syntax.proofs.call.named_in_order.Given as goal

abbrev pub decreases-loop-rest : goal.decreases-loop-rest
decreases-loop-rest l = length l.rest

abbrev pub invariant-loop-rest : goal.invariant-loop-rest
invariant-loop-rest l = named_in_order l.star_may_come l.rest ≡ named_in_order l.fn.star_may_come l.fn.arguments
