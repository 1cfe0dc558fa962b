use Rattle.std.proofs.Common.{◌<◌, ap, false, map, length, string_bytes, subst, sym, true, ◌∙◌}
use Rattle.std.specs.Prelude.{All, IfSome}
use Rattle.star_bundle.specs.View.{asked_view}
use Rattle.star_bundle.specs.declared.bundle.AskedFor.{AskedFor}
use Rattle.star_dialect.specs.declared.Mode.{Mode}
use Rattle.star_memo.specs.Lasting.{AreEndsNow}
use Rattle.star_memo.specs.Outcomes.{AreAlike, AreOutcomes}
use Rattle.star_memo.specs.declared.outcomes.Outcomes.{Outcomes}
use Rattle.star_memo.specs.declared.outcomes.Terms.{Terms}
use Rattle.star_reading.specs.Record.{are_recordable}
use Rattle.star_session.specs.Answers.{IsReportOf, IsReportText}
use Rattle.star_session.specs.Requests.{asked_by, question_of}
use Rattle.star_session.proofs.Limits.{MayRecord, asked_files, limit_refused, of_asked, record_refused, report_of_asked, words_of, words_refused}
use Rattle.star_session.proofs.answer.report_after.Goals as goal

pub returns-in-Err-clause-refused : goal.returns-in-Err-clause-refused
returns-in-Err-clause-refused g c = limit_refused c.args.standing.now.files (asked_by c.args.request) c.in-Err.error c.in-Err.ensures.limits

pub returns-in-Err-asked_in-clause-refused : goal.returns-in-Err-asked_in-clause-refused
returns-in-Err-asked_in-clause-refused g c =
    let roots = ap (map string_bytes) c.as_slice.ensures.value in
    let prelude = words_of c.as_ref-prelude.result c.args.request.question.prelude c.as_ref-prelude.ensures.value in
    words_refused c.args.standing.now.files c.in-Ok.files (asked_by c.args.request) _ _ c.in-Err-asked_in.error c.in-Ok.ensures.limits roots prelude c.in-Err-asked_in.ensures.asked

pub returns-then-not-are_recordable-clause-refused : goal.returns-then-not-are_recordable-clause-refused
returns-then-not-are_recordable-clause-refused g c =
    let roots = ap (map string_bytes) c.as_slice.ensures.value in
    let prelude = words_of c.as_ref-prelude.result c.args.request.question.prelude c.as_ref-prelude.ensures.value in
    let may : MayRecord (asked_by c.args.request) false = sym (c.are_recordable.ensures ∙ ap are_recordable c.names.ensures.names) ∙ c.if-not-are_recordable.true in
    record_refused c.args.standing.now.files c.in-Ok.files (asked_by c.args.request) _ _ (asked_view c.in-Ok-asked_in.asked) may c.in-Ok.ensures.limits roots prelude c.in-Ok-asked_in.ensures.asked

pub keep_lasting-requires-clause-outcomes : goal.keep_lasting-requires-clause-outcomes
keep_lasting-requires-clause-outcomes g c =
    let asked = c.in-Ok-asked_in.asked in
    λ lives within. subst (λ (m : Mode). AreOutcomes asked.files asked.prelude m c.in_ok-staying.staying.outcomes.all.items) c.in_ok-share.ensures c.in_ok-staying.ensures.outcomes

pub keep_lasting-requires-clause-former : goal.keep_lasting-requires-clause-former
keep_lasting-requires-clause-former g c =
    let asked = c.in-Ok-asked_in.asked in
    let old = c.args.standing.now.files in
    λ lives within. subst (λ fs. AreOutcomes fs asked.prelude c.args.request.question.mode c.in_ok-staying.staying.former.items) (sym c.staying.ensures.files)
    (subst (λ (m : Mode). AreOutcomes old asked.prelude m c.in_ok-staying.staying.former.items) c.in_ok-share.ensures c.in_ok-staying.ensures.former)

pub keep_lasting-requires-clause-alike : goal.keep_lasting-requires-clause-alike
keep_lasting-requires-clause-alike g c =
    let asked = c.in-Ok-asked_in.asked in
    λ lives within some. subst (λ fs. AreAlike fs asked.files asked.prelude) (sym c.staying.ensures.files) (c.in_ok-staying.ensures.alike some)

pub report_of-requires-clause-ends : goal.report_of-requires-clause-ends
report_of-requires-clause-ends g c =
    λ lives within. subst (λ (a : AskedFor). AreEndsNow a.files a.prelude c.args.request.question.mode c.keep_lasting.new.staying.outcomes.all.items) (sym c.keep_lasting.ensures.asked) c.in_ok-keep_lasting.ensures.ends

pub returns-clause-outcomes : goal.returns-clause-outcomes
returns-clause-outcomes g c =
    let asked = c.in-Ok-asked_in.asked in
    let ends = c.in_ok-reported.reported.ends.items in
    let files = c.keep_lasting.new.asked.files in
    let mode = c.args.request.question.mode in
    let terms = ap (λ (o : Outcomes). o.terms) c.report_of.ensures.outcomes ∙ c.keep_lasting.ensures.terms ∙ c.in_ok-staying.ensures.terms in
    let own = subst (λ p. AreOutcomes files p mode ends) (ap (λ (a : AskedFor). a.prelude) c.keep_lasting.ensures.asked) c.in_ok-reported.ensures.ends in
    subst (λ (t : Terms). AreOutcomes files t.prelude t.mode ends) (sym terms)
    (subst (λ (m : Mode). AreOutcomes files asked.prelude m ends) (sym c.in_ok-share.ensures) own)

pub returns-clause-after : goal.returns-clause-after
returns-clause-after g c = ap (λ (a : AskedFor). a.files) c.keep_lasting.ensures.asked ∙ asked_files _ _ c.in-Ok.files (asked_view c.in-Ok-asked_in.asked) c.in-Ok-asked_in.ensures.asked ∙ c.in-Ok.ensures.files

pub returns-clause-report : goal.returns-clause-report
returns-clause-report g c =
    let roots = ap (map string_bytes) c.as_slice.ensures.value in
    let prelude = words_of c.as_ref-prelude.result c.args.request.question.prelude c.as_ref-prelude.ensures.value in
    let asked = c.in-Ok-asked_in.asked in
    let may : MayRecord (asked_by c.args.request) true = sym (c.are_recordable.ensures ∙ ap are_recordable c.names.ensures.names) ∙ c.if-not-are_recordable.false in
    let question = c.args.request.question in
    let text = c.in_ok-reported.reported.text.items in
    let report = subst (λ (a : AskedFor). IsReportText question.wanted (asked_view a) question.mode text) c.keep_lasting.ensures.asked c.in_ok-reported.ensures.report in
    subst (λ (a : AskedFor). IsReportOf a.files (question_of question) text) (sym c.keep_lasting.ensures.asked)
    (of_asked c.args.request asked.files text (report_of_asked c.args.standing.now.files c.in-Ok.files (asked_by c.args.request) _ _ (asked_view asked) text report.0
    may c.in-Ok.ensures.limits c.in-Ok.ensures.files roots prelude c.in-Ok-asked_in.ensures.asked report.1))
