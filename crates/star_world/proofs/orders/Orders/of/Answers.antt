use Rattle.std.proofs.Common.{sym, subst}
use Rattle.std.specs.Prelude.{IfSome}
use Rattle.star_world.specs.Orders.{HasLayout, HaveLayouts}
use Rattle.star_world.proofs.InOrder.{layouts_more}
use Rattle.star_world.proofs.orders.Orders.of.Goals as goal
use Rattle.star_world.proofs.orders.Orders.of.Goals.{in-Some+in_ok-insert+in-None-1, in-Some+in_ok-insert+in-Some-1, in_default}

pub loop-definition-preserved : goal.loop-definition-preserved
loop-definition-preserved c =
    let p = c.args.program.now in
    let number = c.definition-item.result.number in
    let found : IfSome c.in_ok-layout.field-0 (HasLayout p number) = c.in_ok-layout.ensures in
    elim c.match-branch-2.branch [
      | in-Some+in_ok-insert+in-None-1 w ↦ subst (HaveLayouts p) (sym w.layouts-is)
          (layouts_more p c.loop-definition.layouts w.insert.new.self number w.in-Some.layout c.loop-definition.invariant (subst (λ o. IfSome o (HasLayout p number)) w.in-Some.is found) w.in_ok-insert.ensures.updates)
      | in-Some+in_ok-insert+in-Some-1 w ↦ subst (HaveLayouts p) (sym w.layouts-is)
          (layouts_more p c.loop-definition.layouts w.insert.new.self number w.in-Some.layout c.loop-definition.invariant (subst (λ o. IfSome o (HasLayout p number)) w.in-Some.is found) w.in_ok-insert.ensures.updates)
      | in_default w ↦ subst (HaveLayouts p) (sym w.layouts-is) c.loop-definition.invariant
    ]
