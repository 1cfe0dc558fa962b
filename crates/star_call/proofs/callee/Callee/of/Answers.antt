use Rattle.std.proofs.Common.{◌≡◌, ap, sym, ◌∙◌}
use Rattle.star_store.specs.declared.values.Cell.TheVariants as cell
use Rattle.star_outline.specs.Definitions.{definition_of}
use Rattle.star_meaning.specs.Calls.{callee}
use Rattle.star_meaning.specs.Program.{definition_of as in_setting}
use Rattle.star_meaning.specs.Values.{Held, content}
use Rattle.star_call.specs.Callees.{definition_for}
use Rattle.std.specs.Option.{option_map}
use Rattle.star_call.proofs.Defined.{is_found}
use Rattle.star_call.proofs.callee.Callee.of.Goals as goal

pub returns-in-Held-Func-clause-answer : goal.returns-in-Held-Func-clause-answer
returns-in-Held-Func-clause-answer c =
    let read = content c.args.setting.now c.args.machine.now in
    let f = c.get.result.now in
    let e : read c.args.value ≡ Held (cell.Func f) = sym c.in-Held-Func.ensures ∙ ap Held (c.in-Held-Func.field-0-is ∙ ap cell.Func (sym c.get.ensures)) in
    rw e (c.function_callee.ensures.answer read e)

pub returns-in-Held-Func-clause-found : goal.returns-in-Held-Func-clause-found
unfolding callee
returns-in-Held-Func-clause-found c = λ h.
    let w = c.args.setting.now in
    let f = c.get.result.now in
    let read = content w c.args.machine.now in
    let e : read c.args.value ≡ Held (cell.Func f) = sym c.in-Held-Func.ensures ∙ ap Held (c.in-Held-Func.field-0-is ∙ ap cell.Func (sym c.get.ensures)) in
    let d : option_map definition_of c.args.definition ≡ in_setting w f.file f.definition = h ∙ ap (definition_for w) e in
    rw e (rw d at (c.function_callee.ensures.answer read e))

pub returns-in-Held-Func-clause-defined : goal.returns-in-Held-Func-clause-defined
returns-in-Held-Func-clause-defined c = λ h.
    let w = c.args.setting.now in
    let f = c.get.result.now in
    let read = content w c.args.machine.now in
    let e : read c.args.value ≡ Held (cell.Func f) = sym c.in-Held-Func.ensures ∙ ap Held (c.in-Held-Func.field-0-is ∙ ap cell.Func (sym c.get.ensures)) in
    is_found w f (option_map definition_of c.args.definition) c.function_callee.result (h ∙ ap (definition_for w) e) c.function_callee.ensures.has
