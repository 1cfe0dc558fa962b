use Rattle.std.proofs.Common.{subst}
use Rattle.std.specs.Prelude.{IfSome}
use Rattle.std.specs.Option.{option_and_then}
use Rattle.star_outline.specs.Definitions.{definition_in}
use Rattle.star_meaning.specs.Program.{definition_of}
use Rattle.star_meaning.specs.Programs.{Files, outline_at, tables_of}
use Rattle.star_world.specs.LaidOut.{IsLaidOut}
use Rattle.star_world.specs.World.{World}
use Rattle.star_world.proofs.Rows.{order_given}
use Rattle.star_world.proofs.world.World.order.Goals as goal

pub returns-clause-in_order : goal.returns-clause-in_order
returns-clause-in_order c =
    let file = c.args.file in
    let number = c.args.number in
    subst (λ (w : World). IfSome c.order.result (IsLaidOut ((tables_of w.files).spots file) (definition_of w.setting file number)))
    c.self.view_is
    (order_given c.self.inside.setting c.self.inside.files.now file number c.order.result c.self.invariant.outlined
    (subst (λ (fs : Files). IfSome c.order.result (IsLaidOut ((tables_of fs).spots file) (option_and_then (λ t. definition_in t.definitions number) (outline_at fs file))))
    c.programs.ensures c.order.ensures.in_order))
