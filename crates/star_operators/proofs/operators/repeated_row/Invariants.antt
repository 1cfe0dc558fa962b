use Rattle.std.proofs.Common.{◌≡◌}
use Rattle.star_meaning.specs.Operators.{times}
use Rattle.star_operators.proofs.operators.repeated_row.Given as goal

abbrev pub invariant-loop-i : goal.invariant-loop-i
invariant-loop-i l = l.made.items ≡ times l._i l.items
