use Rattle.star_world.specs.Orders.{HaveLayouts}
use Rattle.star_world.proofs.orders.Orders.of.Given as goal

abbrev pub invariant-loop-definition : goal.invariant-loop-definition
invariant-loop-definition l = HaveLayouts l.program l.layouts
