use Rattle.std.proofs.Common.{◌≡◌, drop, position}
use Rattle.star_store.specs.Table.{earlier, is_among}
use Rattle.star_store.proofs.arena.tables.earliest.Given as goal

abbrev pub invariant-loop-at : goal.invariant-loop-at
invariant-loop-at l = earlier l.place (position (is_among l.home (drop l.at-index l.row)) l.keys) ≡ position (is_among l.home l.row) l.keys
