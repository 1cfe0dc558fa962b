use Rattle.std.proofs.Common.{refl, subst, sym}
use Rattle.serde_json.specs.View.{view}
use Rattle.star_session.specs.Requests.{IsIdText, id_in}
use Rattle.star_session.proofs.Answered.{lost_misreads, misreads, of_request, lost_request}
use Rattle.star_session.proofs.session.answer_value.Goals as goal

pub returns-in_err-id-clause-lost : goal.returns-in_err-id-clause-lost
returns-in_err-id-clause-lost g c =
    let d = c.args.settings.now.defaults in
    lost_misreads c.from_residual.result d.origin (g.F.Repo.says c.args.folder.now) d c.args.standing.now.files c.args.standing.now.files (view c.args.value) refl

pub returns-in-Err-clause-answered : goal.returns-in-Err-clause-answered
returns-in-Err-clause-answered g c =
    let v = view c.args.value in
    let d = c.args.settings.now.defaults in
    let id = subst (IsIdText (id_in v)) (sym c.as_str.ensures.value) c.in_ok-id.ensures in
    misreads c.misread.result (λ l. l.items) d.origin (g.F.Repo.says c.args.folder.now) d c.args.standing.now.files c.args.standing.now.files v c.as_str.result.now c.in-Err.error id refl
    c.in-Err.ensures.refused c.misread.ensures.known c.misread.ensures.line

pub returns-in-Err-clause-lost : goal.returns-in-Err-clause-lost
returns-in-Err-clause-lost g c =
    let d = c.args.settings.now.defaults in
    lost_misreads c.misread.result d.origin (g.F.Repo.says c.args.folder.now) d c.args.standing.now.files c.args.standing.now.files (view c.args.value) refl

pub returns-clause-answered : goal.returns-clause-answered
returns-clause-answered g c =
    let v = view c.args.value in
    let id = subst (IsIdText (id_in v)) (sym c.as_str-2.ensures.value) c.in_ok-id.ensures in
    of_request c.answer_request.result _ _ v _ id c.in-Ok.ensures.ok c.answer_request.ensures.answered

pub returns-clause-lost : goal.returns-clause-lost
returns-clause-lost g c = lost_request c.answer_request.result _ (view c.args.value) _ c.in-Ok.ensures.ok c.answer_request.ensures.lost
