-- A definition that is found is laid out as its order says.
use Rattle.std.specs.Prelude.{◌≡◌, Option, Some}
use Rattle.star_outline.specs.Definitions.{Definition}
use Rattle.star_scope.specs.Places.{Spots}
use Rattle.star_world.specs.declared.orders.Order.{Order}
use Rattle.star_world.specs.Orders.{AreLaidOut}

-- the parameters of a definition, if this is one, are in the first slots as the order's layout says
abbrev pub IsLaidOut : Spots → Option Definition → Order → Type 0
IsLaidOut spots found o = (d : Definition) → found ≡ Some d → AreLaidOut spots o.names.now o.layout.now d.parameters
