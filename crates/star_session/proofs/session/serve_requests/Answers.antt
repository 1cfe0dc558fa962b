use Rattle.std.proofs.Common.{[], ap, arith, map, refl, subst, sym, ◌∙◌}
use Rattle.star_label.specs.Files.{file_of}
use Rattle.std.specs.Prelude.{IfSome}
use Rattle.star_session.specs.Folders.{AnswersIn, IsAnsweredIn}
use Rattle.star_session.specs.Kept.{AreKeptFor}
use Rattle.star_session.specs.Lines.{IsCut, ahead_of}
use Rattle.star_session.specs.Session.{IsGenerationOf, IsPart}
use Rattle.star_session.specs.declared.session.Begin.{Begin}
use Rattle.star_session.proofs.Parts.{no_part, part_then_part, part_then_rest, session}
use Rattle.star_session.proofs.session.serve_requests.Goals as goal

pub loop-init : goal.loop-init
loop-init g c =
    let d = IsAnsweredIn (g.F.Repo.says c.args.folder.now) c.args.settings.now.defaults in
    let s = g.R.Source.said c.args.reader.now in
    let t = g.W.Sink.taken c.args.writer.now in
    let files = c.in-Ok.files in
    let none = c.in-Ok.ensures.1 ∙ ap (map file_of) c.new.ensures.empty in
    let lines = c.in_ok-new.field-0 in
    let begun = no_part d s (ahead_of lines) t files in (
      tt,
      tt,
      subst (λ f. IsPart d s s [] (ahead_of lines) t t f files) none
          (subst (λ h. IsPart d s s h (ahead_of lines) t t files files) c.in_ok-new.ensures.nothing begun),
      c.new-3.ensures files,
      c.in_ok-new.ensures.cut,
      refl,
      refl,
    )

pub loop-preserved : goal.loop-preserved
loop-preserved g c =
    let answers = AnswersIn (g.F.Repo.says c.args.folder.now) c.args.settings.now in
    let said = g.R.Source.said in
    let taken = g.W.Sink.taken in
    let new = c.answer_generation.new in
    let next = c.in-Some-2.next in
    let one = subst (IsGenerationOf said taken answers c.loop.reader new.reader c.loop.writer new.writer c.loop.begin) c.in-Some-2.is c.in_ok-next.ensures.step in (
      tt,
      tt,
      part_then_part answers (said c.args.reader.now) (said c.loop.reader) (said new.reader) [] (ahead_of c.loop.begin.lines) (ahead_of next.lines) (taken c.args.writer.now) (taken c.loop.writer) (taken new.writer) [] c.loop.begin.files next.files c.loop.invariant.2 one,
      subst (λ o. IfSome o (λ (b : Begin). AreKeptFor b.files b.kept)) c.in-Some-2.is c.in_ok-next.ensures.kept,
      subst (λ o. IfSome o (λ (b : Begin). IsCut b.lines)) c.in-Some-2.is c.in_ok-next.ensures.cut,
      omega (arith, c.in_ok-next.ensures.reads, c.loop.invariant.5),
      omega (arith, c.in_ok-next.ensures.writes, c.loop.invariant.6),
    )

pub returns-in-None-2-clause-session : goal.returns-in-None-2-clause-session
returns-in-None-2-clause-session g c =
    let answers = AnswersIn (g.F.Repo.says c.args.folder.now) c.args.settings.now in
    let said = g.R.Source.said in
    let taken = g.W.Sink.taken in
    let new = c.answer_generation.new in
    let last = subst (IsGenerationOf said taken answers c.loop.reader new.reader c.loop.writer new.writer c.loop.begin) c.in-None-2.is c.in_ok-next.ensures.step in
    session answers (said c.args.reader.now) (said new.reader) (taken c.args.writer.now) (taken new.writer)
    (part_then_rest answers (said c.args.reader.now) (said c.loop.reader) (said new.reader) [] (ahead_of c.loop.begin.lines) (taken c.args.writer.now) (taken c.loop.writer) (taken new.writer) [] c.loop.begin.files c.loop.invariant.2 last)
