use Rattle.std.proofs.Common.{◌≤◌, ◌+◌, ap, arith, drop, inr, length, sym, ◌∙◌}
use Rattle.std.proofs.lemmas.List.{drop_all}
use Rattle.serde_json.specs.View.{items_view}
use Rattle.star_session.specs.Requests.{names_in}
use Rattle.star_session.proofs.Asked.{names_done, names_next, names_stop}
use Rattle.star_session.proofs.Items.{next_item}
use Rattle.star_session.proofs.request.names_in.Goals as goal

pub returns-in_default-clause-refused : goal.returns-in_default-clause-refused
returns-in_default-clause-refused c =
    let next = next_item c.args.items.now c.loop-item.item-index c.item-item.result c.loop-item-test.true c.item-item.is in
    inr (c.loop-item.invariant
    ∙ ap (λ vs. names_in c.loop-item.recorded (items_view vs)) next
    ∙ names_stop c.loop-item.recorded _ _ (sym c.in_default.ensures))

pub loop-item-preserved : goal.loop-item-preserved
loop-item-preserved c =
    let next = next_item c.args.items.now c.loop-item.item-index c.item-item.result c.loop-item-test.true c.item-item.is in
    let rest = items_view (drop (c.loop-item.item-index + 1) c.args.items.now) in
    c.loop-item.invariant
    ∙ ap (λ vs. names_in c.loop-item.recorded (items_view vs)) next
    ∙ names_next c.loop-item.recorded c.in-Some.name.now _ _ (sym c.in-Some.ensures)
    ∙ ap (λ ns. names_in ns rest) (sym c.in_ok-add.ensures.added)

pub returns-clause-ok : goal.returns-clause-ok
returns-clause-ok c =
    let over : length c.args.items.now ≤ c.loop-item.item-index = omega (arith, c.loop-item-test.false, c.loop-item.auto.item-index-end) in
    c.loop-item.invariant
    ∙ ap (λ vs. names_in c.loop-item.recorded (items_view vs)) (drop_all c.loop-item.item-index c.args.items.now over)
    ∙ names_done c.loop-item.recorded
