use Rattle.std.proofs.Common.{◌≡◌, take, length}
use Rattle.star_dialect.proofs.are_same.Given as goal

abbrev pub invariant-loop-n : goal.invariant-loop-n
invariant-loop-n l = record {
  same : take l.n l.texts ≡ take l.n l.others;
  size : length l.texts ≡ length l.others;
}
