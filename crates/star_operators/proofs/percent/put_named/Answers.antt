use Rattle.std.proofs.Common.{[], rules}
use Rattle.star_operators.proofs.Names.{name_done, name_open, name_without_letter}
use Rattle.star_operators.proofs.percent.put_named.Goals as goal

pub returns-in_default-clause-reads : goal.returns-in_default-clause-reads
returns-in_default-clause-reads c =
    rw c.fault_at.ensures (name_open c.args.setting.now c.args.levels c.args.line c.args.dict c.args.after.now [] c.args.out.now c.args.machine.now c.in_default.ensures)

pub returns-in_default-first_ascii-clause-reads : goal.returns-in_default-first_ascii-clause-reads
returns-in_default-first_ascii-clause-reads c =
    let e = c.in-Some.ensures in
    rw c.fault_at-in_default-first_ascii.ensures (name_without_letter c.args.setting.now c.args.levels c.args.line c.args.dict c.args.after.now _ _ _ [] c.args.out.now c.args.machine.now e.0 e.1 e.2 c.in_default-first_ascii.ensures)

pub returns-in_err-text-clause-reads : goal.returns-in_err-text-clause-reads
returns-in_err-text-clause-reads c =
    let e = c.in-Some.ensures in
    rw (name_done c.args.setting.now c.args.levels c.args.line c.args.dict c.args.after.now _ _ _ _ _ [] c.args.out.now c.args.machine.now e.0 e.1 e.2 c.in-Some-first_ascii.ensures.0) (search rules)

pub returns-clause-reads : goal.returns-clause-reads
returns-clause-reads c =
    let e = c.in-Some.ensures in
    rw (name_done c.args.setting.now c.args.levels c.args.line c.args.dict c.args.after.now _ _ _ _ _ [] c.args.out.now c.args.machine.now e.0 e.1 e.2 c.in-Some-first_ascii.ensures.0) (search rules)
