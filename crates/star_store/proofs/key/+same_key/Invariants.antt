use Rattle.std.proofs.Common.{◌≡◌, ◌+◌, ◌*◌, ◌-◌}
use Rattle.star_store.specs.Key.{all_pass, same_key, same_key_place}
use Rattle.star_store.specs.Store.{look}
use Rattle.star_store.proofs.key.+same_key.Given as goal

abbrev pub decreases-same_key : goal.decreases-same_key
decreases-same_key l = 3 * l.levels

abbrev pub decreases-same_key_items : goal.decreases-same_key_items
decreases-same_key_items l = 3 * l.levels + 1

abbrev pub decreases-same_key_fields : goal.decreases-same_key_fields
decreases-same_key_fields l = 3 * l.levels + 2

abbrev pub invariant-same_key_items-loop-i : goal.invariant-same_key_items-loop-i
invariant-same_key_items-loop-i l =
    let f = same_key_place (same_key (look l.arena l.homes) l.levels) l.xs l.ys in
    all_pass f (l.count - l.i) l.i ≡ all_pass f l.count 0
