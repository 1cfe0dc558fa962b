use Rattle.std.proofs.Common.{◌≡◌, ◌++◌, drop, map}
use Rattle.star_meaning.specs.Orders.{by_itself}
use Rattle.star_builtin.proofs.orders.each_by_itself.Given as goal

abbrev pub invariant-loop-item : goal.invariant-loop-item
invariant-loop-item l = l.pairs.items ++ map by_itself (drop l.item-index l.items) ≡ map by_itself l.items
