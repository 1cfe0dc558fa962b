use Rattle.std.proofs.Common.{◌<◌, length, IfSome}
use Rattle.star_outcome.proofs.reachable.widest.Given as goal

abbrev pub invariant-loop-i : goal.invariant-loop-i
invariant-loop-i l = IfSome l.place (λ i. i < length l.modules)
