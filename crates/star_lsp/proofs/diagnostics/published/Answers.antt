use Rattle.std.proofs.Common.{◌≡◌, ◌∙◌, ap, rules, w64}
use Rattle.std.specs.Prelude.{codes}
use Rattle.std.proofs.lemmas.Result.{IfOk-weaker}
use Rattle.serde_json.specs.View.{view}
use Rattle.serde_json.specs.declared.value.Value.{Array}
use Rattle.star_lsp.specs.Message.{notification_data, publication_data}
use Rattle.star_lsp.proofs.diagnostics.published.Goals as goal

pub returns : goal.returns
returns g c =
    let list = view (Array c.in_ok-all.all) in
    IfOk-weaker c.notification.result _ _
    (λ v h. (
      list,
      h
          ∙ ap (notification_data (codes "textDocument/publishDiagnostics"))
          (c.in_ok-params.ensures
          ∙ ap (λ n. publication_data c.as_str-uri.result.now n list) {y = c.args.document.now.version} (search rules)
          ∙ ap (λ uri. publication_data uri c.args.document.now.version list) c.as_str-uri.ensures.value),
    ))
    c.notification.ensures
