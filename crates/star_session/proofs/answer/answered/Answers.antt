use Rattle.std.proofs.Common.{ap, codes, subst, sym, ◌∙◌}
use Rattle.star_session.specs.Answers.{IsReportOf, answer_line}
use Rattle.star_session.specs.Requests.{asked_by}
use Rattle.star_session.proofs.Limits.{of_last}
use Rattle.star_session.proofs.answer.answered.Goals as goal

pub returns-in-Some-clause-reports : goal.returns-in-Some-clause-reports
returns-in-Some-clause-reports g c = λ d id. record {
  after_is = sym c.in-Some.ensures.same;
  id_text = c.args.id.now;
  id_is = id;
  report = c.in-Some.report.now;
  reports = c.in-Some.ensures.report;
  answer_is = c.in_ok-known.ensures;
}

pub returns-clause-reports : goal.returns-clause-reports
returns-clause-reports g c =
    let files_are = c.trim.ensures.files in
    λ d id. record {
      after_is = files_are ∙ c.in-Ok.ensures.after;
      id_text = c.args.id.now;
      id_is = id;
      report = c.in-Ok.after.last.report.items;
      reports = subst (λ f. IsReportOf f (asked_by c.args.request) c.in-Ok.after.last.report.items) (sym files_are)
          (of_last c.args.request c.in-Ok.after.last.question c.in-Ok.after.files c.in-Ok.after.last.report.items c.in-Ok.ensures.question c.in-Ok.ensures.report);
      answer_is = c.in_ok-line.ensures ∙ ap (answer_line c.args.id.now (codes "report")) c.as_slice.ensures.value;
    }
