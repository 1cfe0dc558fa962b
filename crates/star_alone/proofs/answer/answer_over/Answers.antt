use Rattle.std.proofs.Common.{sym, subst}
use Rattle.star_outcome.specs.Kept.{AllGood, AreModulesOf}
use Rattle.star_reading.specs.Found.{IsReadOf}
use Rattle.star_report.specs.Shown.{ReportsRun}
use Rattle.star_report.proofs.Planned.{lead_to_files}
use Rattle.star_alone.proofs.Answers.{answered_in}
use Rattle.star_alone.proofs.answer.answer_over.Goals as goal

pub report_alone-requires-clause-loads : goal.report_alone-requires-clause-loads
report_alone-requires-clause-loads c =
    let asked = c.args.asked.now in
    lead_to_files asked.files c.as_slice-roots.result.now asked.prelude c.args.mode.now.language c.run_alone.new.reads.all.items c.in-Ok.ensures.read

pub returns-clause-ok : goal.returns-clause-ok
returns-clause-ok c =
    let asked = c.args.asked.now in
    let wanted = c.args.wanted in
    let mode = c.args.mode.now in
    let row = c.run_alone.new.reads.all.items in
    let run = c.in-Ok.run' in
    let text = c.in_ok-text.text.items in
    let value = c.as_slice-roots.ensures.value in
    let same = c.in_ok-text.ensures.same in
    answered_in wanted asked.files asked.roots.items asked.prelude mode row run text c.all_good-all_ok.result c.in-Ok.ensures.begun
    (subst (λ roots. AreModulesOf asked.files roots asked.prelude mode run.kept) value c.in-Ok.ensures.modules)
    (subst (λ roots. IsReadOf asked.files roots asked.prelude mode.language row) value c.in-Ok.ensures.read)
    (subst (λ roots. ReportsRun wanted asked.files row roots run text) value c.in_ok-text.ensures.text)
    (λ e. subst (λ r. AllGood r.kept) same (c.all_good-all_ok.ensures.good e)) (λ e all. c.all_good-all_ok.ensures.bad e (subst (λ r. AllGood r.kept) (sym same) all))
