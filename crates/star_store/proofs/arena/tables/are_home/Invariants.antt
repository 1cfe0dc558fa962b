use Rattle.std.proofs.Common.{◌≡◌, drop}
use Rattle.std.specs.List.{list_all}
use Rattle.star_store.specs.Table.{is_home}
use Rattle.star_store.proofs.arena.tables.are_home.Given as goal

abbrev pub invariant-loop-item : goal.invariant-loop-item
invariant-loop-item l = list_all (is_home l.home) (drop l.item-index l.items) ≡ list_all (is_home l.home) l.items
