use Rattle.std.proofs.Common.{◌≡◌, drop}
use Rattle.std.specs.List.{list_all}
use Rattle.star_meaning.specs.Orders.{is_of_sorted}
use Rattle.star_builtin.proofs.orders.are_of_sorted.Given as goal

abbrev pub invariant-loop-value : goal.invariant-loop-value
invariant-loop-value l = list_all is_of_sorted (drop l.value-index l.named) ≡ list_all is_of_sorted l.named
