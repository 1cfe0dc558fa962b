use Rattle.star_session.specs.Requests.{asked_by}
use Rattle.star_session.proofs.Seen.{by_seen, by_unseen}
use Rattle.star_session.proofs.folder.answered_from.Goals as goal

pub returns-in-Ok-look-clause-answered : goal.returns-in-Ok-look-clause-answered
returns-in-Ok-look-clause-answered g c =
    by_seen c.seen.result (λ l. l.items) (g.F.Repo.says c.args.folder.now) c.args.standing.now.files c.look.new.standing.files c.seen.new.standing.files (asked_by c.args.request) c.args.id.now c.in-Ok-look.ensures.looked c.seen.ensures.answered

pub returns-in-Err-clause-answered : goal.returns-in-Err-clause-answered
returns-in-Err-clause-answered g c =
    by_unseen c.unseen.result (λ l. l.items) (g.F.Repo.says c.args.folder.now) c.args.standing.now.files c.look.new.standing.files (asked_by c.args.request) c.args.id.now c.in-Err.error c.in-Err.ensures.none c.in-Err.ensures.refused c.unseen.ensures
