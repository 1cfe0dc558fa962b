use Rattle.std.proofs.Common.{◌≡◌}
use Rattle.star_data.proofs.Rows.{After}
use Rattle.star_data.proofs.data.put_new.Given as goal

abbrev pub invariant-loop-i : goal.invariant-loop-i
invariant-loop-i l = record {
  row : l.row.items ≡ l.fn.row.items;
  after : After l.key l.fn.row.items l.i;
}
