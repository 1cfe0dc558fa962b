use Rattle.std.proofs.Common.{◌≡◌, ◌∙◌, ℕ, List, ap, codes, false, filter, fold, map, subst}
use Rattle.std.proofs.lemmas.Result.{IfOk-weaker}
use Rattle.serde_json.specs.Data.{Data, Members, array, no_members, object, string}
use Rattle.serde_json.specs.View.{items_of, view}
use Rattle.serde_json.specs.Written.{compact_text, has_float}
use Rattle.serde_json.specs.declared.value.Value.{Array}
use Rattle.serde_json.proofs.OnLiterals.{serde_json_on_literals}
use Rattle.serde_json.proofs.Views.{view-Array}
use Rattle.star_report.specs.Shelf.{names_of, stored_data}
use Rattle.star_report.specs.Texts.{AreTexts}
use Rattle.star_report.specs.Values.{is_opaque, value_members_by, with_value}
use Rattle.star_report.specs.Wanted.{added, put_in}
use Rattle.star_report.proofs.Members.{no_float_before}
use Rattle.star_report.proofs.more.text_with_values.Goals as goal

pub returns : goal.returns
unfolding serde_json_on_literals
returns c =
    let body = c.args.body.now in
    let names : List (List ℕ) = names_of body in
    let f = stored_data c.len.result c.args.n body in
    let ms : Members = fold (with_value f) no_members names in
    let d : Data = view c.args.shown in
    let A : Data = array (items_of (map string (filter (is_opaque f) names))) in
    let are : AreTexts c.in_ok-values.field-0.values.entries ms = c.in_ok-values.ensures.values in
    let rest = c.in_ok-values.field-0.opaque in
    let as_array : view (Array rest) ≡ A = view-Array rest ∙ ap (λ ds. array (items_of ds)) c.in_ok-values.ensures.opaque in
    let seen : view c.in_ok-shown.shown ≡ put_in (codes "opaque") A d = c.in_ok-shown.ensures ∙ ap (λ x. put_in (codes "opaque") x d) as_array in
    IfOk-weaker c.with_last.result _ _ (λ t h. subst (λ k. has_float (added (value_members_by (stored_data k c.args.n body) names) d) ≡ false → t.items ≡ compact_text (added (value_members_by (stored_data k c.args.n body) names) d)) c.len.ensures.len
    (λ none. h (ap has_float seen ∙ no_float_before (codes "values") (put_in (codes "opaque") A d) (object ms) (c.requires A) none) ms are ∙ ap (λ x. compact_text (put_in (codes "values") (object ms) x)) seen)) c.with_last.ensures
