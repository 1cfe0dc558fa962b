use Rattle.std.proofs.Common.{◌∙◌, ℕ, List, ap}
use Rattle.std.specs.Arc.{arc_value}
use Rattle.std.proofs.lemmas.Result.{IfOk-weaker}
use Rattle.serde_json.specs.Written.{compact_text}
use Rattle.star_label.specs.Files.{label_at}
use Rattle.star_outcome.specs.declared.module.Body.{Body}
use Rattle.star_plan.specs.Text.{lines_in, well_data}
use Rattle.star_report.proofs.Wells.{well_is}
use Rattle.star_report.proofs.pages.module_text.Goals as goal

pub returns-in-Good : goal.returns-in-Good
returns-in-Good c =
    let it = c.args.it.now in
    let files = c.args.files.now in
    let label : List ℕ = label_at files it.number in
    let body : Body = arc_value c.in-Good.body in
    let lines = c.deref-in-Good-3.result.now in
    let shown = c.deref-in-Good.result.now in
    let named = c.text.ensures ∙ c.label.ensures in
    let globals = c.deref-in-Good.ensures ∙ ap (λ (b : Body). arc_value b.shown) c.deref.ensures in
    let printed = c.deref-in-Good-3.ensures.value ∙ ap (λ (b : Body). b.lines.items) c.deref-in-Good-2.ensures in
    IfOk-weaker c.good_text.result _ _ (λ t h. well_is c.args.wanted files c.args.causes.now c.args.loads.now it c.in-Good.body t.items (c.is_plain.ensures c.if-is_plain.true) c.in-Good.is
    (h
    ∙ (ap (λ l. compact_text (well_data l shown (lines_in lines))) named
    ∙ (ap (λ s. compact_text (well_data label s (lines_in lines))) globals
    ∙ ap (λ ls. compact_text (well_data label (arc_value body.shown) (lines_in ls))) printed)))) c.good_text.ensures
