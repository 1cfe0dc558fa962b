use Rattle.std.proofs.Common.{◌≡◌, ◌<◌, ◌++◌, ℕ, [], All, ap, refl, subst, sym, ◌∙◌, arith, length, take}
use Rattle.std.specs.Prelude.{string_bytes}
use Rattle.star_outcome.specs.Refusals.{AreRefusalsOf}
use Rattle.star_outcome.proofs.RefusedLoads.{all_files, first_refused}
use Rattle.star_reading.proofs.Known.{none_known}
use Rattle.star_report.specs.Output.{InPlanOf, IsOutput, IsSaid}
use Rattle.star_serve.specs.Stream.{Adds}
use Rattle.star_bundle.specs.View.{asked_view}
use Rattle.star_serve.specs.Trace.{Traces, trace_text}
use Rattle.star_serve.proofs.Checked.{checked_said}
use Rattle.star_serve.proofs.Streams.{went_well}
use Rattle.star_serve.proofs.Traced.{if_ok_both}
use Rattle.star_serve.proofs.Refusals.{started_refused, started_writes}
use Rattle.star_serve.proofs.WrittenTexts.{if_ok-map, not_said}
use Rattle.star_serve.proofs.serve.reported_over.Goals as goal

pub returns-in-Err-clause-refused : goal.returns-in-Err-clause-refused
returns-in-Err-clause-refused g c = started_refused _ c.in-Err.error c.in-Err.ensures.kinds refl

pub returns-in-Err-clause-writes : goal.returns-in-Err-clause-writes
returns-in-Err-clause-writes g c = omega (arith, started_writes c.in-Err.error c.in-Err.ensures.kinds)

pub returns-clause-ok : goal.returns-clause-ok
returns-clause-ok g c =
    let asked = c.args.job.now.asked.now in
    let options = c.args.options.now in
    let it = c.in-Ok.answer.written in
    (c.as_slice.result.now, went_well c.write_some.result (sym c.is_err.ensures.value ∙ c.if-is_err.false) c.write_some.ensures.takes, subst (λ text. InPlanOf asked.files asked.roots.items asked.prelude options.mode (λ plan. IsOutput options.output asked.files plan text it.all_ok)) (sym c.as_slice.ensures.value) c.in-Ok.ensures.text)

pub say-requires : goal.say-requires
say-requires g c =
    let asked = c.args.job.now.asked.now in
    subst (λ rs. All (λ r. (r.file < length asked.files) × (r.loaded < length asked.files)) rs) (sym c.refused.ensures)
    (all_files asked.files asked.roots.items asked.prelude c.args.options.now.mode _ c.in-Ok.ensures.refused)

pub returns-clause-traced : goal.returns-clause-traced
returns-clause-traced g c = λ none same.
    let asked = c.args.job.now.asked.now in
    let options = c.args.options.now in
    let run = c.in-Ok.answer.run in
    let said = string_bytes c.in-Ok.answer.written.said in
    let kept = c.write_explained.ensures none in
    let it = c.say.ensures.says (subst (λ e. g.E.Sink.failed e ≡ g.E.Sink.failed c.args.errors.now) kept same) in
    let lines = subst (λ rs. Adds (g.E.Sink.taken c.args.errors.now) (g.E.Sink.taken c.say.new.writer) (c.as_str.result.now ++ trace_text asked.files (take it.0 rs))) c.refused.ensures it.2 in
    subst (λ e. Traces options.output (asked_view asked) options.mode c.in-Ok.answer.written.all_ok options.trace (g.E.Sink.taken c.args.errors.now) (g.E.Sink.taken e)) (sym kept)
    (said, c.in-Ok.ensures.said, take it.0 run.refused, first_refused asked.files asked.roots.items asked.prelude options.mode run.refused it.0 c.in-Ok.ensures.refused, (λ off. ap (λ k. take k run.refused) (it.1 off)), subst (λ s. Adds (g.E.Sink.taken c.args.errors.now) (g.E.Sink.taken c.say.new.writer) (s ++ trace_text asked.files (take it.0 run.refused))) c.as_str.ensures.value lines)

pub returns-clause-untraced : goal.returns-clause-untraced
returns-clause-untraced g c = λ quiet off none.
    let asked = c.args.job.now.asked.now in
    let options = c.args.options.now in
    let empty = not_said options.output asked.files asked.roots.items asked.prelude options.mode c.in-Ok.answer.written.all_ok (string_bytes c.in-Ok.answer.written.said) c.in-Ok.ensures.said none in
    c.write_explained.ensures quiet ∙ c.say.ensures.none (c.as_str.ensures.value ∙ empty) off

pub returns-in-Check-clause-ok : goal.returns-in-Check-clause-ok
returns-in-Check-clause-ok g c = rw c.in-Check.is c.checked_over.ensures.ok

pub returns-in-Check-clause-traced : goal.returns-in-Check-clause-traced
returns-in-Check-clause-traced g c =
    let asked = asked_view c.args.job.now.asked.now in
    let options = c.args.options.now in
    if_ok-map c.checked_over.result
    (λ ok h none same. rw c.in-Check.is (checked_said asked options.mode c.in-Check.only_roots c.in-Check.calls ok options.trace h.0.0 (g.E.Sink.taken c.args.errors.now) (g.E.Sink.taken c.checked_over.new.errors) (ap g.E.Sink.taken (h.1 none)) h.0.2))
    (if_ok_both c.checked_over.result _ _ c.checked_over.ensures.ok c.checked_over.ensures.untold)

pub returns-in-Check-clause-untraced : goal.returns-in-Check-clause-untraced
returns-in-Check-clause-untraced g c = if_ok-map c.checked_over.result (λ ok h none off said. h none) c.checked_over.ensures.untold

pub answered-requires-clause-reads : goal.answered-requires-clause-reads
answered-requires-clause-reads g c =
    let asked = c.args.job.now.asked.now in
    λ lives within. none_known asked.files asked.prelude c.args.options.now.mode.language c.new-reads.result.all.items c.new-reads.ensures
