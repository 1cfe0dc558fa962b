use Rattle.star_session.specs.Requests.{asked_by}
use Rattle.star_session.proofs.Answered.{by_folder, by_sent, lost_folder, lost_sent}
use Rattle.star_session.proofs.session.answer_request.Goals as goal

pub returns-in-Sent-clause-answered : goal.returns-in-Sent-clause-answered
returns-in-Sent-clause-answered g c =
    let d = c.args.settings.now.defaults in
    by_sent c.answer_sent.result (λ l. l.items) d.origin (g.F.Repo.says c.args.folder.now) d c.args.standing.now.files c.answer_sent.new.standing.files c.args.id.now (asked_by c.args.request) c.in-Sent.is c.answer_sent.ensures.answered

pub returns-in-Sent-clause-lost : goal.returns-in-Sent-clause-lost
returns-in-Sent-clause-lost g c =
    let d = c.args.settings.now.defaults in
    lost_sent c.answer_sent.result d.origin (g.F.Repo.says c.args.folder.now) d c.args.standing.now.files c.answer_sent.new.standing.files (asked_by c.args.request) c.answer_sent.ensures.same

pub returns-in-Folder-clause-lost : goal.returns-in-Folder-clause-lost
returns-in-Folder-clause-lost g c =
    let d = c.args.settings.now.defaults in
    lost_folder c.answered_from.result d.origin (g.F.Repo.says c.args.folder.now) d c.args.standing.now.files c.answered_from.new.standing.files (asked_by c.args.request) c.in-Folder.is c.answered_from.ensures.known

pub returns-in-Folder-clause-answered : goal.returns-in-Folder-clause-answered
returns-in-Folder-clause-answered g c =
    let d = c.args.settings.now.defaults in
    by_folder c.answered_from.result (λ l. l.items) d.origin (g.F.Repo.says c.args.folder.now) d c.args.standing.now.files c.answered_from.new.standing.files c.args.id.now (asked_by c.args.request) c.in-Folder.is c.answered_from.ensures.answered
