use Rattle.std.proofs.Common.{rules}
use Rattle.std.specs.Ordering.{is_lt}
use Rattle.star_store.specs.declared.values.Value.{Value}
use Rattle.star_meaning.specs.Values.{content}
use Rattle.star_builtin.specs.Orders.{by_contents}
use Rattle.star_builtin.proofs.Contents.{order_same, contents_rank}
use Rattle.star_visit.proofs.Sorting.{sorted_by}
use Rattle.star_builtin.proofs.sorted.in_order.Goals as goal

pub returns : goal.returns
returns c =
    let w = c.args.setting.now in
    let s = c.args.machine.now in
    let xs = c.args.values.now in
    rw (order_same w s xs c.requires)
    (rw (← c.in_ok-items.ensures.items) (sorted_by (λ (x y : Value). is_lt (by_contents (content w s x) (content w s y))) (contents_rank w s) _ _ c.in_ok-sort_by.ensures.sorted c.in_ok-sort_by.ensures.stable (λ a r q k. search rules)))
