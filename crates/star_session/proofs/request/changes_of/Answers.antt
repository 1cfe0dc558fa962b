use Rattle.std.proofs.Common.{◌≡◌, ◌++◌, ◌∷◌, [], inr, map, sym, ap, ◌∙◌, string_bytes}
use Rattle.std.specs.Prelude.{option_map}
use Rattle.std.proofs.lemmas.List.{map-append}
use Rattle.serde_json.specs.View.{view, members_view}
use Rattle.star_bundle.specs.Bundle.{is_label}
use Rattle.star_label.specs.View.{text_of}
use Rattle.star_session.specs.Changes.{change_of}
use Rattle.star_session.specs.Requests.{changes_of}
use Rattle.star_session.proofs.Asked.{after, changes_done, changes_next, label_is, label_not, no_label, no_text, nothing_left}
use Rattle.star_session.proofs.request.changes_of.Goals as goal

pub loop-name-preserved : goal.loop-name-preserved
loop-name-preserved c =
    let rest = members_view c.pop_first.new.self.entries in
    let front = map change_of c.loop-name.changes.items in
    let name = string_bytes c.in-Some.name in
    let text = option_map string_bytes c.in-Some-text_or_null.text in
    let is = label_is _ c.in_ok-label.field-0 c.in-Some-2.label c.in_ok-label.ensures c.in-Some-2.is in
    let labelled : text_of c.in-Some-2.label ≡ name = is.1 ∙ c.as_str.ensures.value in
    let step = changes_next front name text (view c.in-Some.value) rest (sym c.in-Some-text_or_null.ensures) (ap is_label (sym c.as_str.ensures.value) ∙ is.0) in
    let pushed = ap (map change_of) c.in_ok-push.ensures.items ∙ map-append change_of c.loop-name.changes.items ((c.in-Some-2.label, c.in-Some-text_or_null.text) ∷ []) in
    c.loop-name.invariant
    ∙ ap (λ es. after front (changes_of (members_view es))) c.in-Some.ensures.removal
    ∙ step
    ∙ ap (λ n. after (front ++ (n, text) ∷ []) (changes_of rest)) (sym labelled)
    ∙ ap (λ xs. after xs (changes_of rest)) (sym pushed)

pub returns-in_default-text_or_null-clause-refused : goal.returns-in_default-text_or_null-clause-refused
returns-in_default-text_or_null-clause-refused c =
    let rest = members_view c.pop_first.new.self.entries in
    let front = map change_of c.loop-name.changes.items in
    inr (c.loop-name.invariant
    ∙ ap (λ es. after front (changes_of (members_view es))) c.in-Some.ensures.removal
    ∙ ap (after front) (no_text (string_bytes c.in-Some.name) (view c.in-Some.value) rest (sym c.in_default-text_or_null.ensures)))

pub returns-in_default-2-clause-refused : goal.returns-in_default-2-clause-refused
returns-in_default-2-clause-refused c =
    let rest = members_view c.pop_first.new.self.entries in
    let front = map change_of c.loop-name.changes.items in
    let not = label_not _ c.in_ok-label.field-0 c.in_ok-label.ensures c.in_default-2.is in
    inr (c.loop-name.invariant
    ∙ ap (λ es. after front (changes_of (members_view es))) c.in-Some.ensures.removal
    ∙ ap (after front) (no_label (string_bytes c.in-Some.name) _ (view c.in-Some.value) rest (sym c.in-Some-text_or_null.ensures) (ap is_label (sym c.as_str.ensures.value) ∙ not)))

pub returns-clause-ok : goal.returns-clause-ok
returns-clause-ok c =
    let front = map change_of c.loop-name.changes.items in
    let empty = nothing_left c.loop-name.members.entries c.in_default.ensures.variant.1 in
    c.loop-name.invariant
    ∙ ap (λ es. after front (changes_of (members_view es))) empty
    ∙ changes_done front
