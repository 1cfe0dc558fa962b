use Rattle.std.proofs.Common.{◌≡◌}
use Rattle.star_host.proofs.settle.settle.Given as goal

abbrev pub invariant-loop-n : goal.invariant-loop-n
invariant-loop-n g l = l.seat.number ≡ l.initial.seat.number
