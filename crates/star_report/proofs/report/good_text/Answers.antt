use Rattle.std.proofs.Common.{◌≡◌, ◌∙◌, ℕ, List, ap}
use Rattle.std.proofs.lemmas.Result.{IfOk-weaker}
use Rattle.serde_json.specs.Data.{array, string}
use Rattle.serde_json.specs.View.{items_of, view}
use Rattle.serde_json.specs.Written.{compact_text, has_float}
use Rattle.serde_json.specs.declared.value.Value.{Array}
use Rattle.serde_json.proofs.Views.{view-Array}
use Rattle.star_plan.specs.Text.{globals_data, lines_in, texts_data}
use Rattle.star_report.specs.Pages.{text_around}
use Rattle.star_report.proofs.NoFloat.{texts_none}
use Rattle.star_report.proofs.Wells.{well_text}
use Rattle.star_report.proofs.report.good_text.Goals as goal

pub returns : goal.returns
returns c =
    let label = c.args.label.now in
    let lines = lines_in c.args.lines.now in
    let globals : List ℕ = compact_text (globals_data c.args.shown.now) in
    let named : view c.in_ok-try_from_str.field-0 ≡ string label = c.in_ok-try_from_str.ensures in
    let name : c.in_ok-label.label.items ≡ compact_text (string label) = c.in_ok-label.ensures.text (ap has_float named) ∙ ap compact_text named in
    let row = c.in_ok-strings.field-0 in
    let printed : view (Array row) ≡ texts_data lines = view-Array row ∙ ap (λ ds. array (items_of ds)) c.in_ok-strings.ensures in
    let said : c.in_ok-lines.lines.items ≡ compact_text (texts_data lines) = c.in_ok-lines.ensures.text (ap has_float printed ∙ texts_none lines) ∙ ap compact_text printed in
    IfOk-weaker c.text_around.result _ _ (λ t h.
    h
    ∙ (ap (λ g. text_around g c.as_slice.result.now c.as_slice-2.result.now) c.json.ensures
    ∙ (ap (λ l. text_around globals l c.as_slice-2.result.now) (c.as_slice.ensures.value ∙ name)
    ∙ (ap (λ n. text_around globals (compact_text (string label)) n) (c.as_slice-2.ensures.value ∙ said)
    ∙ well_text label c.args.shown.now lines)))) c.text_around.ensures
