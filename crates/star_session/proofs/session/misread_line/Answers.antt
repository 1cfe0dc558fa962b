use Rattle.std.proofs.Common.{subst, sym}
use Rattle.serde_json.specs.Data.{null}
use Rattle.star_session.specs.Requests.{IsIdText}
use Rattle.star_session.proofs.Answered.{null_refusal}
use Rattle.star_session.proofs.session.misread_line.Goals as goal

pub returns-clause-line : goal.returns-clause-line
returns-clause-line c = null_refusal c.misread.result (λ l. l.items) c.as_str.result.now _ (subst (IsIdText null) (sym c.as_str.ensures.value) c.in_ok-id.ensures) c.misread.ensures.line
