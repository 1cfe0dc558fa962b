use Rattle.std.proofs.Common.{◌≡◌, ◌≤◌, ◌+◌, ◌*◌, ◌-◌, length}
use Rattle.std.specs.Ordering.{nat_cmp}
use Rattle.star_store.specs.Equal.{same, same_place}
use Rattle.star_store.specs.Order.{order, order_place, order_places}
use Rattle.star_store.specs.Store.{look}
use Rattle.star_visit.proofs.order.+order.Given as goal

abbrev pub decreases-ordered : goal.decreases-ordered
decreases-ordered l = 2 * l.levels

abbrev pub decreases-order_items : goal.decreases-order_items
decreases-order_items l = 2 * l.levels + 1

abbrev pub invariant-order_items-loop-i : goal.invariant-order_items-loop-i
invariant-order_items-loop-i l =
    let f = same_place (same (look l.arena l.homes) l.levels) l.xs l.ys in
    let g = order_place (order (look l.arena l.homes) l.levels) l.xs l.ys in
    let end = nat_cmp (length l.xs) (length l.ys) in
    record {
      rest : order_places f g end (l.count - l.i) l.i l.steps ≡ order_places f g end l.count 0 l.fn.steps;
      less : l.steps ≤ l.fn.steps;
    }
