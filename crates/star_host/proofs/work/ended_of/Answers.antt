use Rattle.std.proofs.Common.{◌∙◌, rules, subst, sym}
use Rattle.star_outcome.specs.Views.{IsBody}
use Rattle.star_outcome.specs.declared.module.Body.{Body}
use Rattle.star_host.proofs.Bodies.{body_is}
use Rattle.star_host.proofs.work.ended_of.Goals as goal

pub returns-in_ok-body-in-Good : goal.returns-in_ok-body-in-Good
returns-in_ok-body-in-Good g c =
    let body : Body = record { stores = c.in_ok-stores-in-Good.stores; shown = c.in_ok-new-in-Good-2.field-0; lines = c.in-Good.lines; paid = c.saturating_sub.result } in
    subst (IsBody g.J.RunId.plan c.args.home) (sym c.in_ok-body-in-Good.ensures.ok)
    (body_is g.J.RunId.plan c.args.home c.args.outcome c.in-Good.frozen c.in-Good.shown c.in-Good.left body c.in-Good.is (c.in_ok-new-in-Good-2.ensures.ok ∙ c.in_ok-new-in-Good.ensures) (search rules) c.requires.ran c.in_ok-stores-in-Good.ensures)
