use Rattle.std.proofs.Common.{◌≡◌, ◌≤◌, ℕ, Some, slice_get}
use Rattle.std.specs.Prelude.{vec_len}
use Rattle.star_memo.proofs.readings.lengthen.Given as goal

abbrev pub invariant-loop : goal.invariant-loop
invariant-loop g l = record {
  size : l.counter ≤ vec_len l.row;
  same : (n : ℕ) (x : _) → slice_get l.row.items n ≡ Some (Some x) → slice_get l.initial.row.items n ≡ Some (Some x);
}
