use Rattle.std.proofs.Common.{◌≡◌, ◌≤◌, ◌+◌, ℕ, length, max}
use Rattle.star_store.specs.Index.{index_at}
use Rattle.star_store.proofs.arena.indexes.widen.Given as goal

abbrev pub invariant-loop-i : goal.invariant-loop-i
invariant-loop-i l = record {
  same : (i : ℕ) → index_at l.indexes.items i ≡ index_at l.fn.indexes.items i;
  grown : length l.indexes.items ≡ l._i;
  within : length l.indexes.items ≤ max (length l.fn.indexes.items) (l.at + 1);
}
