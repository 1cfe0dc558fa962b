use Rattle.std.proofs.Common.{◌∙◌, ap, sym}
use Rattle.std.specs.Prelude.{option_map}
use Rattle.serde_json.specs.View.{view}
use Rattle.star_lsp.proofs.Requests.{no_id, with_id}
use Rattle.star_lsp.proofs.service.Service.take_value.Goals as goal

pub returns-in-Some : goal.returns-in-Some
returns-in-Some g c =
    with_id c.take_with_id.result (view c.args.message.now) (view c.in-Some.id.now) _ _ (sym c.get.ensures ∙ ap (option_map (λ v. view v.now)) c.in-Some.is) c.take_with_id.ensures

pub returns-in-None : goal.returns-in-None
returns-in-None g c =
    no_id c.take_without_id.result (view c.args.message.now) _ _ (sym c.get.ensures ∙ ap (option_map (λ v. view v.now)) c.in-None.is)
