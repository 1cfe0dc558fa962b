use Rattle.std.proofs.Common.{◌≡◌, Some, sym, subst}
use Rattle.std.specs.BTreeMap.{get}
use Rattle.std.specs.Ordering.{nat_cmp}
use Rattle.star_outline.specs.Definitions.{Definition, definition_in}
use Rattle.star_outline.specs.Outlines.{outline}
use Rattle.star_scope.specs.Spots.{spot_at}
use Rattle.star_meaning.specs.Programs.{PlacedFile}
use Rattle.star_world.specs.Orders.{AreLaidOut}
use Rattle.star_world.proofs.ProgramRows.{order_known}
use Rattle.star_world.proofs.placed.IndexedProgram.order.Goals as goal

pub returns-clause-in_order : goal.returns-clause-in_order
returns-clause-in_order c =
    let p = c.self.inside.program.now in
    let number = c.args.number in
    let layout = c.in_ok-layout.layout.now in
    let names = c.in_ok-names.names.now in
    let known : get nat_cmp c.self.inside.orders.layouts number ≡ Some layout = sym c.in_ok-layout.ensures in
    subst (λ (v : PlacedFile). (d : Definition) → definition_in (outline v.statements).definitions number ≡ Some d → AreLaidOut (spot_at v.spots) names layout d.parameters)
    c.self.view_is (order_known p number layout names c.self.invariant.0 (c.self.invariant.1 number layout known) c.in_ok-names.ensures)
