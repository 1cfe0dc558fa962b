use Rattle.std.proofs.Common.{◌≡◌, drop}
use Rattle.star_store.specs.Table.{is_closed}
use Rattle.star_store.proofs.arena.tables.is_closed.Given as goal

abbrev pub invariant-loop-counted : goal.invariant-loop-counted
invariant-loop-counted l = is_closed l.home (drop l.counted-index l.cells) ≡ is_closed l.home l.cells
