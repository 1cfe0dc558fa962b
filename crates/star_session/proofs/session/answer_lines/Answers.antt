use Rattle.std.proofs.Common.{arith, refl, subst, sym}
use Rattle.star_session.specs.Folders.{IsAnsweredIn}
use Rattle.star_session.specs.Lines.{ahead_of}
use Rattle.star_session.specs.Session.{IsPart, IsStep}
use Rattle.star_session.proofs.Parts.{no_part, part_then_part, part_then_rest}
use Rattle.star_session.proofs.session.answer_lines.Goals as goal

pub loop-init : goal.loop-init
loop-init g c =
    let d = IsAnsweredIn (g.F.Repo.says c.args.folder.now) c.args.settings.now.defaults in (
      tt,
      tt,
      no_part d (g.R.Source.said c.args.reader.now) (ahead_of c.args.session.now.lines) (g.W.Sink.taken c.args.writer.now) c.args.session.now.standing.files,
      c.requires.standing,
      c.requires.cut,
      refl,
      refl,
    )

pub loop-preserved : goal.loop-preserved
loop-preserved g c =
    let d = IsAnsweredIn (g.F.Repo.says c.args.folder.now) c.args.settings.now.defaults in
    let said = g.R.Source.said in
    let taken = g.W.Sink.taken in
    let new = c.next_answer.new in
    let one = subst (λ b. IsStep d (said c.loop.reader) (said new.reader) (ahead_of c.loop.session.lines) (ahead_of new.session.lines) (taken c.loop.writer) (taken new.writer) c.loop.session.standing.files new.session.standing.files b) c.if-not-branch.false c.in_ok-next_answer.ensures.step in (
      tt,
      tt,
      subst (IsPart d (said c.args.reader.now) (said new.reader) (ahead_of c.args.session.now.lines) (ahead_of new.session.lines) (taken c.args.writer.now) (taken new.writer) c.args.session.now.standing.files) (sym c.lighten.ensures.files) (part_then_part d (said c.args.reader.now) (said c.loop.reader) (said new.reader) (ahead_of c.args.session.now.lines) (ahead_of c.loop.session.lines) (ahead_of new.session.lines) (taken c.args.writer.now) (taken c.loop.writer) (taken new.writer) c.args.session.now.standing.files c.loop.session.standing.files new.session.standing.files c.loop.invariant.2 one),
      c.lighten.ensures.standing,
      c.in_ok-next_answer.ensures.cut,
      omega (arith, c.in_ok-next_answer.ensures.reads, c.loop.invariant.5),
      omega (arith, c.in_ok-next_answer.ensures.writes, c.loop.invariant.6),
    )

pub returns-in-Some-next_arena-clause-step : goal.returns-in-Some-next_arena-clause-step
returns-in-Some-next_arena-clause-step g c =
    let d = IsAnsweredIn (g.F.Repo.says c.args.folder.now) c.args.settings.now.defaults in
    let said = g.R.Source.said in
    let taken = g.W.Sink.taken in
    let new = c.next_answer.new in
    let one = subst (λ b. IsStep d (said c.loop.reader) (said new.reader) (ahead_of c.loop.session.lines) (ahead_of new.session.lines) (taken c.loop.writer) (taken new.writer) c.loop.session.standing.files new.session.standing.files b) c.if-not-branch.false c.in_ok-next_answer.ensures.step in
    part_then_part d (said c.args.reader.now) (said c.loop.reader) (said new.reader) (ahead_of c.args.session.now.lines) (ahead_of c.loop.session.lines) (ahead_of new.session.lines) (taken c.args.writer.now) (taken c.loop.writer) (taken new.writer) c.args.session.now.standing.files c.loop.session.standing.files new.session.standing.files c.loop.invariant.2 one

pub returns-then-not-branch-clause-step : goal.returns-then-not-branch-clause-step
returns-then-not-branch-clause-step g c =
    let d = IsAnsweredIn (g.F.Repo.says c.args.folder.now) c.args.settings.now.defaults in
    let said = g.R.Source.said in
    let taken = g.W.Sink.taken in
    let new = c.next_answer.new in
    let last = subst (λ b. IsStep d (said c.loop.reader) (said new.reader) (ahead_of c.loop.session.lines) (ahead_of new.session.lines) (taken c.loop.writer) (taken new.writer) c.loop.session.standing.files new.session.standing.files b) c.if-not-branch.true c.in_ok-next_answer.ensures.step in
    part_then_rest d (said c.args.reader.now) (said c.loop.reader) (said new.reader) (ahead_of c.args.session.now.lines) (ahead_of c.loop.session.lines) (taken c.args.writer.now) (taken c.loop.writer) (taken new.writer) c.args.session.now.standing.files c.loop.session.standing.files c.loop.invariant.2 last
