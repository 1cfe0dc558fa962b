use Rattle.std.proofs.Common.{sym, subst}
use Rattle.star_reading.specs.Found.{IsReadOf}
use Rattle.star_report.proofs.Planned.{read_plan}
use Rattle.star_serve.proofs.written.check_written.Goals as goal

pub returns-clause-text : goal.returns-clause-text
returns-clause-text c = λ run plan of.
    let files = c.args.files.now in
    let row = c.args.reads.now.all.items in
    let read = read_plan files row plan c.len-count.ensures.ordered of.planned (subst (λ rs. IsReadOf files rs plan.prelude plan.mode.language row) (sym of.roots_are) of.read) in
    c.in_ok-it.ensures plan of.planned read of.roots_are
