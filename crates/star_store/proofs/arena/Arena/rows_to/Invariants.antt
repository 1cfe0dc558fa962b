use Rattle.std.proofs.Common.{◌≡◌, length}
use Rattle.star_store.specs.Store.{look}
use Rattle.star_store.specs.Table.{AreRowsUpTo}
use Rattle.star_store.proofs.arena.Arena.rows_to.Given as goal

abbrev pub invariant-loop-at : goal.invariant-loop-at
invariant-loop-at l = record {
  told : AreRowsUpTo (look l.self l.homes) l.home l.at l.rows.contents l.rows.addresses.items;
  even : length l.rows.addresses.items ≡ length l.rows.contents;
}
