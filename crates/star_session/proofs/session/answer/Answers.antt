use Rattle.std.proofs.Common.{refl}
use Rattle.serde_json.specs.View.{view}
use Rattle.star_session.proofs.Answered.{long, lost_as, lost_line, lost_ready, ready, unread}
use Rattle.star_session.proofs.session.answer.Goals as goal

pub returns-in-Ok-clause-answered : goal.returns-in-Ok-clause-answered
returns-in-Ok-clause-answered g c =
    let d = c.args.settings.now.defaults in
    ready c.answer_value.result (λ l. l.items) d.origin (g.F.Repo.says c.args.folder.now) d c.args.standing.now.files c.answer_value.new.standing.files c.args.line c.args.bytes.now (view c.in-Ok.value) c.in-Ready.is c.in-Ok.ensures.ok c.answer_value.ensures.answered

pub returns-in-Ok-clause-lost : goal.returns-in-Ok-clause-lost
returns-in-Ok-clause-lost g c =
    let d = c.args.settings.now.defaults in
    lost_ready c.answer_value.result d.origin (g.F.Repo.says c.args.folder.now) d c.args.standing.now.files c.answer_value.new.standing.files c.args.line c.args.bytes.now (view c.in-Ok.value) c.in-Ready.is c.in-Ok.ensures.ok c.answer_value.ensures.lost

pub returns-in-Err-clause-answered : goal.returns-in-Err-clause-answered
returns-in-Err-clause-answered g c =
    let d = c.args.settings.now.defaults in
    let before = c.args.standing.now.files in
    unread c.misread_line.result (λ l. l.items) d.origin (g.F.Repo.says c.args.folder.now) d before before c.args.line c.args.bytes.now c.in-Err.error c.in-Ready.is refl c.in-Err.ensures.refused c.misread_line.ensures.known c.misread_line.ensures.line

pub returns-in-Err-clause-lost : goal.returns-in-Err-clause-lost
returns-in-Err-clause-lost g c =
    let d = c.args.settings.now.defaults in
    lost_line c.misread_line.result d.origin (g.F.Repo.says c.args.folder.now) d c.args.standing.now.files c.args.standing.now.files c.args.line c.args.bytes.now refl

pub returns-in-TooLong-clause-answered : goal.returns-in-TooLong-clause-answered
returns-in-TooLong-clause-answered g c =
    let d = c.args.settings.now.defaults in
    long c.too_long.result (λ l. l.items) d.origin (g.F.Repo.says c.args.folder.now) d c.args.standing.now.files c.args.standing.now.files c.args.line c.args.bytes.now c.in-TooLong.is refl c.too_long.ensures

pub returns-in-TooLong-clause-lost : goal.returns-in-TooLong-clause-lost
returns-in-TooLong-clause-lost g c =
    let d = c.args.settings.now.defaults in
    lost_line c.too_long.result d.origin (g.F.Repo.says c.args.folder.now) d c.args.standing.now.files c.args.standing.now.files c.args.line c.args.bytes.now refl

pub returns-in-Lost-clause-lost : goal.returns-in-Lost-clause-lost
returns-in-Lost-clause-lost g c = λ whole piece. lost_as c.args.settings.now.defaults.origin (g.F.Repo.says c.args.folder.now) c.args.settings.now.defaults c.args.standing.now.files whole c.args.standing.now.files refl
