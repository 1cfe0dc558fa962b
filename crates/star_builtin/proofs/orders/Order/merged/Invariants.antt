use Rattle.std.proofs.Common.{◌≡◌, ◌+◌, length}
use Rattle.star_machine.specs.Refines.{with_front}
use Rattle.star_meaning.specs.Merging.{merged}
use Rattle.star_builtin.specs.Orders.{precedes}
use Rattle.star_builtin.proofs.orders.Order.merged.Given as goal

abbrev pub invariant-loop-front : goal.invariant-loop-front
invariant-loop-front l =
    let f = merged (precedes l.self) in
    with_front l.made.items (f l.front l.rest l.machine) ≡ f l.fn.front l.fn.rest l.fn.machine

abbrev pub decreases-loop-front : goal.decreases-loop-front
decreases-loop-front l = length l.front + length l.rest
