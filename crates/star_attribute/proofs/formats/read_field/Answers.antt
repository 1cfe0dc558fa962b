use Rattle.std.proofs.Common.{rules}
use Rattle.star_attribute.specs.Fields.{as_numbering}
use Rattle.star_attribute.proofs.Braces.{field_closed, field_open, field_opened}
use Rattle.star_attribute.proofs.formats.read_field.Goals as goal

pub returns-in_default-clause-reads : goal.returns-in_default-clause-reads
returns-in_default-clause-reads c =
    rw c.fault_at.ensures (field_open c.args.call.setting.now c.args.call.levels c.args.call.line c.args.call.given.now c.args.after.now (as_numbering c.args.numbering) c.args.out.now c.args.machine.now c.in_default.ensures)

pub returns-in_err-text-clause-reads : goal.returns-in_err-text-clause-reads
returns-in_err-text-clause-reads c =
    let e = c.in-Some.ensures in
    rw (field_closed c.args.call.setting.now c.args.call.levels c.args.call.line c.args.call.given.now c.args.after.now _ _ _ (as_numbering c.args.numbering) c.args.out.now c.args.machine.now e.0 e.1 c.if-brace-eq125.true) (search rules)

pub returns-then-brace-eq125-clause-reads : goal.returns-then-brace-eq125-clause-reads
returns-then-brace-eq125-clause-reads c =
    let e = c.in-Some.ensures in
    let t = field_closed c.args.call.setting.now c.args.call.levels c.args.call.line c.args.call.given.now c.args.after.now _ _ _ (as_numbering c.args.numbering) c.args.out.now c.args.machine.now e.0 e.1 c.if-brace-eq125.true in
    rw t (search rules)

pub returns-then-not-is_empty-clause-reads : goal.returns-then-not-is_empty-clause-reads
returns-then-not-is_empty-clause-reads c =
    let e = c.in-Some.ensures in
    rw (field_opened c.args.call.setting.now c.args.call.levels c.args.call.line c.args.call.given.now c.args.after.now _ _ _ (as_numbering c.args.numbering) c.args.out.now e.0 e.1 (search rules)) (search rules)
