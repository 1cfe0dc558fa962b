use Rattle.std.proofs.Common.{rules, subst, sym}
use Rattle.star_bundle.specs.View.{asked_view}
use Rattle.star_dialect.specs.declared.Mode.{Mode}
use Rattle.star_memo.specs.Lasting.{AreEndsNow}
use Rattle.star_memo.specs.Outcomes.{AreOutcomes}
use Rattle.star_memo.specs.Parses.{AreKept}
use Rattle.star_report.specs.declared.wanted.Output.{Output}
use Rattle.star_report.specs.declared.wanted.Output.TheVariants.{Report}
use Rattle.star_serve.specs.Serve.{IsOutputFor}
use Rattle.star_session.proofs.Bodies.{body_of}
use Rattle.star_session.proofs.answer.report_of.Goals as goal

pub run_over-requires-clause-ends : goal.run_over-requires-clause-ends
run_over-requires-clause-ends g c κs within =
    let asked = c.args.asked.now in
    subst (λ (m : Mode). AreEndsNow asked.files asked.prelude m c.parse_first.new.staying.outcomes.all.items) (sym c.in_ok-options.ensures.mode)
    (subst (λ outcomes. AreEndsNow asked.files asked.prelude c.args.mode.now outcomes.all.items) (sym c.parse_first.ensures.outcomes) c.requires.ends)

pub returns-clause-parses : goal.returns-clause-parses
returns-clause-parses g c =
    subst (λ parses. AreKept c.args.asked.now.files parses.all.items) (sym c.run_over.ensures.parses) c.in_ok-parse_first.ensures.parses

pub returns-clause-report : goal.returns-clause-report
returns-clause-report g c =
    let asked = c.args.asked.now in
    let written = c.in_ok-written.field-0.written in
    let text = written.text.items in
    let out = subst (λ (m : Mode). IsOutputFor (Report c.args.wanted) (asked_view asked) m text written.all_ok) c.in_ok-options.ensures.mode
    (subst (λ (o : Output). IsOutputFor o (asked_view asked) c.in_ok-options.options.mode text written.all_ok) c.in_ok-options.ensures.output c.in_ok-written.ensures.text) in
    (written.all_ok, body_of c.args.wanted asked.files asked.roots.items asked.prelude c.args.mode.now text c.pop.new.self.items _ written.all_ok (search rules) c.pop.ensures.rest out)

pub returns-clause-ends : goal.returns-clause-ends
returns-clause-ends g c =
    let asked = c.args.asked.now in
    subst (λ (m : Mode). AreOutcomes asked.files asked.prelude m c.in_ok-written.field-0.ends.items) c.in_ok-options.ensures.mode c.in_ok-written.ensures.ends
