use Rattle.std.proofs.Common.{rules}
use Rattle.std.specs.Ordering.{is_lt}
use Rattle.star_store.specs.declared.values.Value.{Value}
use Rattle.star_builtin.specs.Orders.{by_keys}
use Rattle.star_builtin.proofs.Keyed.{keyed_same, keyed_rank}
use Rattle.star_visit.proofs.Sorting.{sorted_by}
use Rattle.star_builtin.proofs.orders.in_order.Goals as goal

pub returns : goal.returns
returns c =
    let w = c.args.setting.now in
    let s = c.args.machine.now in
    let b = c.args.backwards in
    let ps = c.args.pairs.now in
    rw (keyed_same w s b ps c.requires)
    (rw (← c.in_ok-items.ensures.items) (sorted_by (λ (p q : Value × Value). is_lt (by_keys w s b p q)) (keyed_rank w s b) _ _ c.in_ok-sort_by.ensures.sorted c.in_ok-sort_by.ensures.stable (λ a r q k. search rules)))
