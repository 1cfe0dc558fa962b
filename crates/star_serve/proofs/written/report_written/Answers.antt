use Rattle.std.proofs.Common.{◌≡◌, sym, subst}
use Rattle.star_outcome.specs.Kept.{AllGood}
use Rattle.star_report.specs.Wanted.{IsFullText}
use Rattle.star_serve.specs.Written.{IsRunOf}
use Rattle.star_serve.proofs.WrittenTexts.{answer_of, full_text_of, lead_files}
use Rattle.star_serve.proofs.written.report_written.Goals as goal

pub report-requires-clause-loads : goal.report-requires-clause-loads
report-requires-clause-loads g c = λ lives within. lead_files c.args.job.now.asked.now.files c.args.reads.now.all.items c.requires.reads c.requires.loads

pub returns-clause-text : goal.returns-clause-text
returns-clause-text g c = λ plan of.
    let run = c.args.run.now in
    let files = c.args.job.now.asked.now.files in
    let same = c.in_ok-text.ensures.same in
    let here = subst (λ roots. IsRunOf files roots c.args.reads.now.all.items run plan) (sym c.as_slice-roots.ensures.value) of in
    let full = full_text_of c.args.wanted files plan run.kept run.begun c.in_ok-text.text.items of.begun (c.in_ok-text.ensures.text plan here.planned here.roots_are here.read here.modules) in (
      subst (IsFullText c.args.wanted files plan) (sym c.with_answer.ensures.text) full,
      answer_of plan run.kept c.with_answer.result.all_ok of.modules (λ e. subst (λ r. AllGood r.kept) same (c.with_answer.ensures.good e)) (λ e all. c.with_answer.ensures.bad e (subst (λ r. AllGood r.kept) (sym same) all)),
    )
