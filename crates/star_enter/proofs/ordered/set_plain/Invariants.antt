use Rattle.std.proofs.Common.{◌≡◌, drop}
use Rattle.star_enter.specs.Ordered.{with_plain}
use Rattle.star_enter.proofs.ordered.set_plain.Given as goal

abbrev pub invariant-loop-i : goal.invariant-loop-i
invariant-loop-i l = with_plain l.i (drop l.i l.values) l.slots ≡ with_plain 0 l.values l.fn.slots
