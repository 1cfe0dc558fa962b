use Rattle.std.proofs.Common.{◌≡◌, ◌≤◌, ◌+◌, ◌*◌, drop}
use Rattle.star_store.specs.Key.{check, check_each}
use Rattle.star_store.specs.Store.{look}
use Rattle.star_store.proofs.key.+check.Given as goal

abbrev pub decreases-check : goal.decreases-check
decreases-check l = 2 * l.levels

abbrev pub decreases-check_each : goal.decreases-check_each
decreases-check_each l = 2 * l.levels + 1

abbrev pub invariant-check_each-loop-item : goal.invariant-check_each-loop-item
invariant-check_each-loop-item l =
    let f = check (look l.arena l.homes) l.levels in
    record {
      rest : check_each f (drop l.item-index l.items) l.steps ≡ check_each f l.items l.fn.steps;
      less : l.steps ≤ l.fn.steps;
    }
