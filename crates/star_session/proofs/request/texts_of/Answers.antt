use Rattle.std.proofs.Common.{◌≡◌, ◌≤◌, ◌+◌, ◌++◌, ◌∷◌, [], ap, drop, arith, length, map, string_bytes, sym, ◌∙◌}
use Rattle.std.proofs.lemmas.List.{drop_all, map-append}
use Rattle.serde_json.specs.View.{items_view}
use Rattle.star_session.specs.Requests.{texts_in}
use Rattle.star_session.proofs.Asked.{after, texts_done, texts_next, texts_stop}
use Rattle.star_session.proofs.Items.{next_item}
use Rattle.star_session.proofs.request.texts_of.Goals as goal

pub returns-in_default : goal.returns-in_default
returns-in_default c =
    let front = map string_bytes c.loop-item.texts.items in
    let next = next_item c.args.items.now c.loop-item.item-index c.item-item.result c.loop-item-test.true c.item-item.is in
    sym (c.loop-item.invariant
    ∙ ap (λ vs. after front (texts_in (items_view vs))) next
    ∙ ap (after front) (texts_stop _ _ (sym c.in_default.ensures)))

pub loop-item-preserved : goal.loop-item-preserved
loop-item-preserved c =
    let front = map string_bytes c.loop-item.texts.items in
    let next = next_item c.args.items.now c.loop-item.item-index c.item-item.result c.loop-item-test.true c.item-item.is in
    let text = c.in_ok-from_str.field-0 in
    let pushed : map string_bytes c.push.new.self.items ≡ front ++ string_bytes text ∷ [] =
    ap (map string_bytes) c.in_ok-push.ensures.items ∙ map-append string_bytes c.loop-item.texts.items (text ∷ []) in
    let same : string_bytes text ≡ c.in-Some.text.now = c.in_ok-from_str.ensures.ok in
    c.loop-item.invariant
    ∙ ap (λ vs. after front (texts_in (items_view vs))) next
    ∙ texts_next front (c.in-Some.text.now) _ _ (sym c.in-Some.ensures)
    ∙ ap (λ t. after (front ++ t ∷ []) (texts_in (items_view (drop (c.loop-item.item-index + 1) c.args.items.now)))) (sym same)
    ∙ ap (λ xs. after xs (texts_in (items_view (drop (c.loop-item.item-index + 1) c.args.items.now)))) (sym pushed)

pub returns : goal.returns
returns c =
    let over : length c.args.items.now ≤ c.loop-item.item-index = omega (arith, c.loop-item-test.false, c.loop-item.auto.item-index-end) in
    let front = map string_bytes c.loop-item.texts.items in
    sym (c.loop-item.invariant
    ∙ ap (λ vs. after front (texts_in (items_view vs))) (drop_all c.loop-item.item-index c.args.items.now over)
    ∙ texts_done front)
