use Rattle.std.proofs.Common.{◌≡◌, ap, false, true, inl, sym, ◌∙◌}
use Rattle.star_bundle.specs.View.{asked_view}
use Rattle.star_reading.specs.Record.{are_recordable}
use Rattle.star_alone.specs.Alone.{asked_by}
use Rattle.star_alone.proofs.Recording.{fails_so, recorded_not, recorded_ok}
use Rattle.star_alone.proofs.answer.answer_alone.Goals as goal

pub returns-in-Err-clause-refused : goal.returns-in-Err-clause-refused
returns-in-Err-clause-refused c =
    let given = asked_by c.args.roots.now c.args.prelude c.args.bytes.now in
    inl (fails_so c.args.mode.now given c.in-Err.error c.in-Err.ensures.asked)

pub returns-then-not-are_recordable-clause-refused : goal.returns-then-not-are_recordable-clause-refused
returns-then-not-are_recordable-clause-refused c =
    let given = asked_by c.args.roots.now c.args.prelude c.args.bytes.now in
    let mode = c.args.mode.now in
    let may : are_recordable mode.language.recorded ≡ false = sym (c.are_recordable.ensures ∙ ap are_recordable c.names.ensures.names) ∙ c.if-not-are_recordable.true in
    inl (recorded_not mode given (asked_view c.in-Ok.asked) may c.in-Ok.ensures.asked)

pub returns-in-Ok-answer_asked-clause-ok : goal.returns-in-Ok-answer_asked-clause-ok
returns-in-Ok-answer_asked-clause-ok c =
    let given = asked_by c.args.roots.now c.args.prelude c.args.bytes.now in
    let mode = c.args.mode.now in
    let may : are_recordable mode.language.recorded ≡ true = sym (c.are_recordable.ensures ∙ ap are_recordable c.names.ensures.names) ∙ c.if-not-are_recordable.false in
    (asked_view c.in-Ok.asked, recorded_ok mode given (asked_view c.in-Ok.asked) may c.in-Ok.ensures.asked, c.in-Ok-answer_asked.ensures.ok)
