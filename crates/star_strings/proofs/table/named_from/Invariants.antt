use Rattle.std.proofs.Common.{◌≡◌, ◌+◌, ◌≤◌, length, map}
use Rattle.star_strings.specs.Table.{named_from, line_of}
use Rattle.star_strings.proofs.table.named_from.Given as goal

abbrev pub invariant-loop-rows : goal.invariant-loop-rows
invariant-loop-rows l = record {
  same : named_from l.name l.number (map line_of l.rows) ≡ named_from l.name l.fn.number (map line_of l.fn.rows);
  room : l.number + length l.rows ≤ 255;
}

abbrev pub decreases-loop-rows : goal.decreases-loop-rows
decreases-loop-rows l = length l.rows
