use Rattle.std.proofs.Common.{◌≡◌, ◌∙◌, List, ℕ, ap}
use Rattle.std.proofs.lemmas.Result.{IfOk-weaker}
use Rattle.serde_json.specs.Data.{Data, object}
use Rattle.serde_json.specs.View.{view}
use Rattle.serde_json.specs.Written.{compact_text, has_float}
use Rattle.serde_json.specs.declared.value.Value.{Object}
use Rattle.serde_json.proofs.Views.{view-Object}
use Rattle.star_plan.specs.Text.{globals_data}
use Rattle.star_outcome.specs.Globals.{shown_texts}
use Rattle.star_outcome.proofs.NoFloat.{globals_none}
use Rattle.star_outcome.proofs.shown.json_of.Goals as goal

pub returns : goal.returns
returns c =
    let m = c.in_ok-global_texts.field-0 in
    let texts : List (List ℕ × List ℕ) = shown_texts c.args.globals.now in
    let seen : view (Object m) ≡ globals_data texts = view-Object m ∙ ap object c.in_ok-global_texts.ensures in
    IfOk-weaker c.to_vec.result _ _ (λ t h. h (ap has_float seen ∙ globals_none texts) ∙ ap compact_text seen) c.to_vec.ensures.text
