use Rattle.std.proofs.Common.{ap, ◌∙◌}
use Rattle.star_meaning.specs.Programs.{file_in}
use Rattle.star_world.proofs.ProgramRows.{order_there}
use Rattle.star_world.proofs.programs.Programs.order.Goals as goal

pub returns-in-Some-clause-in_order : goal.returns-in-Some-clause-in_order
returns-in-Some-clause-in_order c =
    order_there c.args.self.now c.args.file c.args.number c.in-Some.placed.now c.order.result
    (c.in-Some.ensures ∙ ap (λ fs. file_in fs c.args.file) (c.deref.ensures.value ∙ c.self.view_is)) c.order.ensures.in_order
