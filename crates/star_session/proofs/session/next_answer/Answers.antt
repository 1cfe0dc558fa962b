use Rattle.std.proofs.Common.{subst, sym}
use Rattle.star_session.specs.Folders.{IsAnsweredIn}
use Rattle.star_session.specs.Lines.{IsNext, IsPiece, ahead_of}
use Rattle.star_session.proofs.Parts.{lost_piece, no_rest, of_piece, said_answered, step}
use Rattle.star_session.proofs.session.next_answer.Goals as goal

pub returns-in-Ok-None-clause-step : goal.returns-in-Ok-None-clause-step
returns-in-Ok-None-clause-step g c =
    let took = subst (IsNext (g.R.Source.said c.args.reader.now) (g.R.Source.said c.next.new.reader) (ahead_of c.args.session.now.lines) (ahead_of c.next.new.self) c.next.new.self.line.items) c.in-Ok-None.field-0-is c.in-Ok-None.ensures.next in
    no_rest (IsAnsweredIn (g.F.Repo.says c.args.folder.now) c.args.settings.now.defaults) (g.R.Source.said c.args.reader.now) (g.R.Source.said c.next.new.reader) (ahead_of c.args.session.now.lines) (g.W.Sink.taken c.args.writer.now) c.args.session.now.standing.files took

pub returns-in-Ok-clause-step : goal.returns-in-Ok-clause-step
returns-in-Ok-clause-step g c =
    let d = IsAnsweredIn (g.F.Repo.says c.args.folder.now) c.args.settings.now.defaults in
    let took = subst (IsNext (g.R.Source.said c.args.reader.now) (g.R.Source.said c.next.new.reader) (ahead_of c.args.session.now.lines) (ahead_of c.next.new.self) c.next.new.self.line.items) c.in-Ok-Some.field-0-is c.in-Ok-Some.ensures.next in
    let piece = subst (λ b. IsPiece c.in-Ok-Some.taken.line b took.0) (sym c.line.ensures) took.2 in
    let one = of_piece c.answer-answer.result (λ l. l.items) d c.args.session.now.standing.files c.answer-answer.new.standing.files c.in-Ok-Some.taken.line c.line.result.now took.0 piece c.answer-answer.ensures.answered in
    let lost = lost_piece c.answer-answer.result d c.args.session.now.standing.files c.answer-answer.new.standing.files c.in-Ok-Some.taken.line c.line.result.now took.0 piece c.answer-answer.ensures.lost in
    let is = said_answered c.answer-answer.result (λ l. l.items) d c.args.session.now.standing.files c.answer-answer.new.standing.files took.0 c.said.result.now one lost c.said.ensures in
    step d (g.R.Source.said c.args.reader.now) (g.R.Source.said c.next.new.reader) (ahead_of c.args.session.now.lines) (ahead_of c.next.new.self) took.0 (g.W.Sink.taken c.args.writer.now) (g.W.Sink.taken c.write.new.self)
    c.args.session.now.standing.files c.answer-answer.new.standing.files c.said.result.now c.in-Ok-Some.taken.is_last took.3 took.1 c.in-Ok.ensures.takes is
