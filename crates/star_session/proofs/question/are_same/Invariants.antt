use Rattle.std.proofs.Common.{◌≡◌, map, string_bytes, take, length}
use Rattle.star_session.proofs.question.are_same.Given as goal

abbrev pub invariant-loop-n : goal.invariant-loop-n
invariant-loop-n l = record {
  same : map string_bytes (take l.n l.texts) ≡ map string_bytes (take l.n l.others);
  size : length l.texts ≡ length l.others;
}
