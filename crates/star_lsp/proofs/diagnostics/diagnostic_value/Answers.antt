use Rattle.std.proofs.Common.{◌∙◌, ap, subst}
use Rattle.std.proofs.lemmas.Result.{IfOk-weaker}
use Rattle.serde_json.specs.View.{view}
use Rattle.star_lsp.specs.Message.{diagnostic_data}
use Rattle.star_lsp.specs.Place.{IsRange}
use Rattle.star_lsp.proofs.diagnostics.diagnostic_value.Goals as goal

pub returns : goal.returns
returns c =
    IfOk-weaker c.diagnostic_with.result _ _
    (λ v h. (
      view c.in_ok-range.range,
      subst (λ span. IsRange c.args.document.now.places c.args.document.now.text span (view c.in_ok-range.range)) c.span_of.ensures c.in_ok-range.ensures,
      h ∙ ap (diagnostic_data (view c.in_ok-range.range) c.args.mistake.now.code.now) (c.as_str.ensures.value ∙ c.in_ok-message.ensures),
    ))
    c.diagnostic_with.ensures
