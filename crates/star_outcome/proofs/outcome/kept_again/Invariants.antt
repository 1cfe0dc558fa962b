use Rattle.std.proofs.Common.{◌≡◌, take}
use Rattle.star_outcome.proofs.outcome.kept_again.Given as goal

abbrev pub invariant-loop-i : goal.invariant-loop-i
invariant-loop-i l = record {
  same : l.kept ≡ l.initial.kept;
  made : l.all.items ≡ take l.i l.initial.kept;
}
