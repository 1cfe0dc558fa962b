use Rattle.std.proofs.Common.{◌++◌, map, sym, ap, ◌∙◌, string_bytes}
use Rattle.std.specs.Prelude.{option_map}
use Rattle.std.proofs.lemmas.List.{map-append}
use Rattle.serde_json.specs.View.{view, members_view}
use Rattle.star_bundle.specs.Bundle.{texts_of, there_or}
use Rattle.star_bundle.specs.View.{member_view}
use Rattle.star_bundle.specs.declared.error.ServeError.TheVariants.{BadBundle}
use Rattle.star_bundle.proofs.Members.{nothing_left, texts_done, texts_next, texts_stop}
use Rattle.star_bundle.proofs.bundle.texts_in.Goals as goal

pub loop-label-preserved : goal.loop-label-preserved
loop-label-preserved c =
    let rest = members_view c.pop_first.new.self.entries in
    let front = map member_view c.loop-label.texts.items in
    let step = texts_next front (string_bytes c.in-Some.label) (string_bytes c.in-Some-into_text.text) (view c.in-Some.value) rest (sym c.in-Some-into_text.ensures) in
    let pushed = ap (map member_view) c.in_ok-push.ensures.items ∙ map-append member_view c.loop-label.texts.items _ in
    c.loop-label.invariant
    ∙ ap (λ es. option_map (λ fs. front ++ fs) (texts_of (members_view es))) c.in-Some.ensures.removal
    ∙ step
    ∙ ap (λ xs. option_map (λ fs. xs ++ fs) (texts_of rest)) (sym pushed)

pub returns-in_default-into_text : goal.returns-in_default-into_text
returns-in_default-into_text c =
    let rest = members_view c.pop_first.new.self.entries in
    let front = map member_view c.loop-label.texts.items in
    let none = texts_stop (string_bytes c.in-Some.label) (view c.in-Some.value) rest (sym c.in_default-into_text.ensures) in
    ap (there_or BadBundle) (c.loop-label.invariant
    ∙ ap (λ es. option_map (λ fs. front ++ fs) (texts_of (members_view es))) c.in-Some.ensures.removal
    ∙ ap (option_map (λ fs. front ++ fs)) none)

pub returns : goal.returns
returns c =
    let front = map member_view c.loop-label.texts.items in
    let empty = nothing_left c.loop-label.members.entries c.in_default.ensures.variant.1 in
    ap (there_or BadBundle) (c.loop-label.invariant
    ∙ ap (λ es. option_map (λ fs. front ++ fs) (texts_of (members_view es))) empty
    ∙ texts_done front)
