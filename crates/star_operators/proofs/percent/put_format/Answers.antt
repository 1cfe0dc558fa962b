use Rattle.std.proofs.Common.{◌≡◌, true, false, rules}
use Rattle.star_meaning.specs.Percent.{opens}
use Rattle.star_operators.proofs.Filling.{filled_badly, filled_letter}
use Rattle.star_operators.proofs.Names.{filled_name}
use Rattle.star_operators.proofs.percent.put_format.Goals as goal

pub returns-in_default-clause-reads : goal.returns-in_default-clause-reads
returns-in_default-clause-reads c =
    rw c.fault_at.ensures (filled_badly c.args.setting.now c.args.levels c.args.line c.args.right c.args.after.now c.args.values.now c.args.out.now c.args.machine.now c.in_default.ensures)

pub returns-in_err-rest-clause-reads : goal.returns-in_err-rest-clause-reads
returns-in_err-rest-clause-reads c =
    let o : opens c.args.setting.now.language.dialect c.in-Some.letter ≡ true = search rules in
    rw (filled_name c.args.setting.now c.args.levels c.args.line c.args.right c.args.after.now _ _ c.args.values.now c.args.out.now c.args.machine.now c.in-Some.ensures.0 o) (search rules)

pub returns-then-opens-clause-reads : goal.returns-then-opens-clause-reads
returns-then-opens-clause-reads c =
    let o : opens c.args.setting.now.language.dialect c.in-Some.letter ≡ true = search rules in
    rw (filled_name c.args.setting.now c.args.levels c.args.line c.args.right c.args.after.now _ _ c.args.values.now c.args.out.now c.args.machine.now c.in-Some.ensures.0 o) (search rules)

pub returns-in_err-left-clause-reads : goal.returns-in_err-left-clause-reads
returns-in_err-left-clause-reads c =
    let o : opens c.args.setting.now.language.dialect c.in-Some.letter ≡ false = search rules in
    rw (filled_letter c.args.setting.now c.args.levels c.args.line c.args.right c.args.after.now _ _ c.args.values.now c.args.out.now c.args.machine.now c.in-Some.ensures.0 o) (search rules)

pub returns-clause-reads : goal.returns-clause-reads
returns-clause-reads c =
    let o : opens c.args.setting.now.language.dialect c.in-Some.letter ≡ false = search rules in
    rw (filled_letter c.args.setting.now c.args.levels c.args.line c.args.right c.args.after.now _ _ c.args.values.now c.args.out.now c.args.machine.now c.in-Some.ensures.0 o) (search rules)
