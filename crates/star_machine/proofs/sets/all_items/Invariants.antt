use Rattle.std.proofs.Common.{◌≡◌, ◌++◌, drop}
use Rattle.star_meaning.specs.Sets.{all_items}
use Rattle.star_machine.proofs.sets.all_items.Given as goal

abbrev pub invariant-loop-row : goal.invariant-loop-row
invariant-loop-row l = l.items.items ++ all_items (drop l.row-index l.rows) ≡ all_items l.rows
