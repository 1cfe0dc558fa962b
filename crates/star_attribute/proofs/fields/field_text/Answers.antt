use Rattle.std.proofs.Common.{ℕ, List, rules, subst}
use Rattle.star_meaning.specs.Format.{Numbering}
use Rattle.star_meaning.specs.Run.{Outcome}
use Rattle.star_machine.specs.Refines.{RefinesBy}
use Rattle.star_attribute.specs.Fields.{as_numbering, text_and_numbering}
use Rattle.star_attribute.proofs.Converted.{converted_is}
use Rattle.star_attribute.proofs.fields.field_text.Goals as goal

pub returns-in_err-value : goal.returns-in_err-value
returns-in_err-value c =
    let part = c.conversion-by_repr.result in
    let e = converted_is c.args.setting.now c.args.levels c.args.line c.args.given.now c.dialect.result c.args.field.now part.0.now part.1 (as_numbering c.args.numbering) c.args.machine.now c.dialect.ensures c.conversion-by_repr.ensures.field c.conversion-by_repr.ensures.by_repr in
    subst (λ (o : Outcome (List ℕ × Numbering)). RefinesBy text_and_numbering o c.from_residual.result c.args.machine.now) e (search rules)

pub returns-in_err-text : goal.returns-in_err-text
returns-in_err-text c =
    let part = c.conversion-by_repr.result in
    let e = converted_is c.args.setting.now c.args.levels c.args.line c.args.given.now c.dialect.result c.args.field.now part.0.now part.1 (as_numbering c.args.numbering) c.args.machine.now c.dialect.ensures c.conversion-by_repr.ensures.field c.conversion-by_repr.ensures.by_repr in
    subst (λ (o : Outcome (List ℕ × Numbering)). RefinesBy text_and_numbering o c.from_residual-in_err-text.result c.text_by.new.machine) e (search rules)
