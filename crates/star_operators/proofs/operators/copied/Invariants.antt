use Rattle.std.proofs.Common.{◌≡◌, take}
use Rattle.star_operators.proofs.operators.copied.Given as goal

abbrev pub invariant-loop-key : goal.invariant-loop-key
invariant-loop-key l = l.made ≡ take l.key-index l.entries
