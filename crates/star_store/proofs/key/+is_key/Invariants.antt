use Rattle.std.proofs.Common.{◌≡◌, ◌+◌, ◌*◌, drop}
use Rattle.std.specs.List.{list_all}
use Rattle.star_store.specs.Key.{is_key}
use Rattle.star_store.specs.Store.{look}
use Rattle.star_store.proofs.key.+is_key.Given as goal

abbrev pub decreases-is_key : goal.decreases-is_key
decreases-is_key l = 2 * l.levels

abbrev pub decreases-all_keys : goal.decreases-all_keys
decreases-all_keys l = 2 * l.levels + 1

abbrev pub invariant-all_keys-loop-item : goal.invariant-all_keys-loop-item
invariant-all_keys-loop-item l = list_all (is_key (look l.arena l.homes) l.levels) (drop l.item-index l.items) ≡ list_all (is_key (look l.arena l.homes) l.levels) l.items
