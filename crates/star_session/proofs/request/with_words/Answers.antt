use Rattle.std.proofs.Common.{◌≤◌, ap, arith, length, sym, ◌∙◌}
use Rattle.std.proofs.lemmas.List.{drop_all}
use Rattle.serde_json.specs.View.{items_view}
use Rattle.star_session.specs.Requests.{with_words}
use Rattle.star_session.proofs.Asked.{words_done, words_next, words_stop, words_unknown}
use Rattle.star_session.proofs.Items.{next_item}
use Rattle.star_session.proofs.request.with_words.Goals as goal

pub returns-in_default : goal.returns-in_default
returns-in_default c =
    let next = next_item c.args.items.now c.loop-item.item-index c.item-item.result c.loop-item-test.true c.item-item.is in
    sym (c.loop-item.invariant
    ∙ ap (λ vs. with_words c.loop-item.wanted (items_view vs)) next
    ∙ words_stop c.loop-item.wanted _ _ (sym c.in_default.ensures))

pub returns-in_default-with_word : goal.returns-in_default-with_word
returns-in_default-with_word c =
    let next = next_item c.args.items.now c.loop-item.item-index c.item-item.result c.loop-item-test.true c.item-item.is in
    sym (c.loop-item.invariant
    ∙ ap (λ vs. with_words c.loop-item.wanted (items_view vs)) next
    ∙ words_unknown c.loop-item.wanted _ _ _ (sym c.in-Some.ensures) (sym c.in_default-with_word.ensures))

pub loop-item-preserved : goal.loop-item-preserved
loop-item-preserved c =
    let next = next_item c.args.items.now c.loop-item.item-index c.item-item.result c.loop-item-test.true c.item-item.is in
    c.loop-item.invariant
    ∙ ap (λ vs. with_words c.loop-item.wanted (items_view vs)) next
    ∙ words_next c.loop-item.wanted _ _ _ _ (sym c.in-Some.ensures) (sym c.in-Some-with_word.ensures)

pub returns : goal.returns
returns c =
    let over : length c.args.items.now ≤ c.loop-item.item-index = omega (arith, c.loop-item-test.false, c.loop-item.auto.item-index-end) in
    sym (c.loop-item.invariant
    ∙ ap (λ vs. with_words c.loop-item.wanted (items_view vs)) (drop_all c.loop-item.item-index c.args.items.now over)
    ∙ words_done c.loop-item.wanted)
