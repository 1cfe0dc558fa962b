use Rattle.std.proofs.Common.{◌≡◌, ap, sym, ◌∙◌}
use Rattle.star_store.specs.declared.values.Cell.TheVariants as cell
use Rattle.star_outline.specs.Definitions.{definition_of}
use Rattle.star_meaning.specs.Values.{Held, content}
use Rattle.star_call.specs.Callees.{defaults_in}
use Rattle.star_enter.proofs.OrderedFrames.{bound_there}
use Rattle.star_enter.proofs.ordered.bound_of.Goals as goal

pub returns-in-Held-Func : goal.returns-in-Held-Func
returns-in-Held-Func c =
    let w = c.args.world.now in
    let called = c.args.called.now in
    let order = c.in-Some.order in
    let f = c.get.result.now in
    let e : content w.setting c.args.machine.now called.value ≡ Held (cell.Func f) = ap (λ u. content u c.args.machine.now called.value) (sym c.setting.ensures) ∙ sym c.in-Held-Func.ensures ∙ ap Held (c.in-Held-Func.field-0-is ∙ ap cell.Func (sym c.get.ensures)) in
    bound_there w order.names.now order.layout.now called.file called.number called.frame called.definition.parameters.now (defaults_in (content w.setting c.args.machine.now called.value)) f.defaults c.args.given.now
    c.bind_in_order.result (c.in-Some.ensures.in_order (definition_of called.definition) c.requires) c.in-Some.ensures.slots (sym (ap defaults_in e)) c.bind_in_order.ensures
