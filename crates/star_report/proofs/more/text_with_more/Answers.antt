use Rattle.std.proofs.Common.{◌≡◌, ◌∙◌, ap, length, sym}
use Rattle.std.proofs.lemmas.Result.{IfOk-weaker}
use Rattle.serde_json.specs.Data.{Data, Members, no_members}
use Rattle.serde_json.specs.View.{view}
use Rattle.star_report.specs.Shelf.{loads_part, more_of, names_of, steps_part, stored_data, values_part}
use Rattle.star_report.specs.Values.{value_members_by}
use Rattle.star_report.specs.Wanted.{added}
use Rattle.star_report.proofs.Members.{added_three, no_body, no_values, same_text, values_there}
use Rattle.star_report.proofs.more.text_with_more.Goals.{in_default-via-in-Good+else-wanted, in_default-via-in_default}
use Rattle.star_report.proofs.more.text_with_more.Goals as goal

pub returns-in_default : goal.returns-in_default
returns-in_default c =
    let wanted = c.args.wanted in
    let it = c.args.it.now in
    let files = c.args.files.now in
    let loads = c.args.loads.now in
    let d : Data = view c.args.shown in
    let none : values_part wanted (length files) it.number it.ended ≡ no_members = elim c.in_default.branch [
      | in_default-via-in-Good+else-wanted w ↦ no_values wanted.values _ w.if-wanted.false
      | in_default-via-in_default w ↦ no_body wanted.values (length files) it.number it.ended w.in_default.not-Good
    ] in
    let seen : added (more_of wanted files loads it) d ≡ view c.in_ok-shown-2.shown =
    added_three (loads_part wanted files loads) (steps_part wanted it.ended) (values_part wanted (length files) it.number it.ended) d
    ∙ (ap (λ v. added v (added (steps_part wanted it.ended) (added (loads_part wanted files loads) d))) none
    ∙ (ap (added (steps_part wanted it.ended)) (sym c.in_ok-shown.ensures) ∙ sym c.in_ok-shown-2.ensures)) in
    IfOk-weaker c.to_vec.result _ _ (λ t h. same_text (view c.in_ok-shown-2.shown) (added (more_of wanted files loads it) d) t.items seen h) c.to_vec.ensures.text

pub returns-in-Good : goal.returns-in-Good
returns-in-Good c =
    let wanted = c.args.wanted in
    let it = c.args.it.now in
    let files = c.args.files.now in
    let loads = c.args.loads.now in
    let d : Data = view c.args.shown in
    let shown : Data = view c.in_ok-shown-2.shown in
    let body = c.deref.result.now in
    let values : Members = value_members_by (stored_data (length files) it.number body) (names_of body) in
    let there : values_part wanted (length files) it.number it.ended ≡ values =
    values_there wanted.values (length files) it.number it.ended c.in-Good.body body c.if-wanted.true c.in-Good.is c.deref.ensures in
    let seen : added (more_of wanted files loads it) d ≡ added values shown =
    added_three (loads_part wanted files loads) (steps_part wanted it.ended) (values_part wanted (length files) it.number it.ended) d
    ∙ (ap (λ v. added v (added (steps_part wanted it.ended) (added (loads_part wanted files loads) d))) there
    ∙ (ap (λ x. added values (added (steps_part wanted it.ended) x)) (sym c.in_ok-shown.ensures) ∙ ap (added values) (sym c.in_ok-shown-2.ensures))) in
    IfOk-weaker c.text_with_values.result _ _ (λ t h. same_text (added values shown) (added (more_of wanted files loads it) d) t.items seen h) c.text_with_values.ensures
