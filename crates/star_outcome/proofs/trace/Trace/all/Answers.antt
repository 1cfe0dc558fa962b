use Rattle.std.proofs.Common.{rules, sym, subst}
use Rattle.star_outcome.specs.Refusals.{AreRefusals, IsRefusal}
use Rattle.star_outcome.proofs.RefusedLoads.{one_refused}
use Rattle.star_outcome.proofs.trace.Trace.all.Goals as goal

pub loop-item-preserved : goal.loop-item-preserved
loop-item-preserved g c =
    let here : IsRefusal g.J.RunId.plan c.in-Some.item.now = search rules in
    subst (AreRefusals g.J.RunId.plan) (sym c.in_ok-push.ensures.items) (one_refused g.J.RunId.plan c.loop-item.all.items c.in-Some.item.now c.loop-item.invariant here)
