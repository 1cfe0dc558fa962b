use Rattle.star_session.proofs.Seen.{seen_refused, seen_reported}
use Rattle.star_session.proofs.folder.seen.Goals as goal

pub returns-in-Ok-clause-answered : goal.returns-in-Ok-clause-answered
returns-in-Ok-clause-answered g c = λ d id.
    seen_reported c.args.standing.now.files c.answered.new.standing.files d (record { changes = c.new.result; question = c.args.question }) c.in-Ok.line.items c.new.ensures.items (c.in-Ok.ensures.reports d id)

pub returns-in-Err-clause-answered : goal.returns-in-Err-clause-answered
returns-in-Err-clause-answered g c =
    seen_refused c.refusal.result (λ l. l.items) c.args.standing.now.files c.answered.new.standing.files (record { changes = c.new.result; question = c.args.question }) c.args.id.now c.in-Err.error _ c.in-Err.ensures.same c.in-Err.ensures.refused c.new.ensures.items c.text.ensures c.refusal.ensures
