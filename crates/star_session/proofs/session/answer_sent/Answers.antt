use Rattle.star_session.specs.Requests.{asked_by, id_in}
use Rattle.star_session.proofs.Answered.{refuses, reported}
use Rattle.star_session.proofs.session.answer_sent.Goals as goal

pub returns-in-Ok-clause-answered : goal.returns-in-Ok-clause-answered
returns-in-Ok-clause-answered g c = λ line v id asks j.
    reported c.args.settings.now.defaults c.args.standing.now.files line v (asked_by c.args.request) c.answered.new.standing.files c.in-Ok.line.items j asks (c.in-Ok.ensures.reports (id_in v) id)

pub returns-in-Err-clause-answered : goal.returns-in-Err-clause-answered
returns-in-Err-clause-answered g c =
    refuses c.refusal.result (λ l. l.items) c.args.settings.now.defaults c.args.standing.now.files c.answered.new.standing.files c.args.id.now (asked_by c.args.request) c.in-Err.error c.text.result.now
    c.in-Err.ensures.same c.in-Err.ensures.refused c.text.ensures c.refusal.ensures
