use Rattle.std.proofs.Common.{drop}
use Rattle.star_scope.specs.Spots.{spot_at}
use Rattle.star_world.specs.Orders.{InOrder, start}
use Rattle.star_world.proofs.orders.are_in_order.Given as goal

abbrev pub invariant-loop-parameter : goal.invariant-loop-parameter
invariant-loop-parameter l =
    let spots = spot_at l.program.spots in
    InOrder spots l.names l.layout l.cursor (drop l.parameter-index l.parameters) → InOrder spots l.names l.layout start l.parameters
