use Rattle.std.proofs.Common.{◌≤◌, ◌+◌, ap, arith, drop, inr, length, map, sym, ◌∙◌}
use Rattle.std.proofs.lemmas.List.{drop_all}
use Rattle.serde_json.specs.View.{items_view}
use Rattle.star_session.specs.Changes.{change_of}
use Rattle.star_session.specs.Requests.{gone_in}
use Rattle.star_session.proofs.Asked.{after, gone_done, gone_next, gone_stop}
use Rattle.star_session.proofs.Items.{next_item}
use Rattle.star_session.proofs.request.gone_in.Goals as goal

pub returns-in_default-clause-refused : goal.returns-in_default-clause-refused
returns-in_default-clause-refused c =
    let next = next_item c.args.items.now c.loop-item.item-index c.item-item.result c.loop-item-test.true c.item-item.is in
    let front = map change_of c.loop-item.changes.items in
    inr (c.loop-item.invariant
    ∙ ap (λ vs. after front (gone_in (items_view vs))) next
    ∙ ap (after front) (gone_stop _ _ (sym c.in_default.ensures)))

pub loop-item-preserved : goal.loop-item-preserved
loop-item-preserved c =
    let next = next_item c.args.items.now c.loop-item.item-index c.item-item.result c.loop-item-test.true c.item-item.is in
    let front = map change_of c.loop-item.changes.items in
    let rest = items_view (drop (c.loop-item.item-index + 1) c.args.items.now) in
    c.loop-item.invariant
    ∙ ap (λ vs. after front (gone_in (items_view vs))) next
    ∙ gone_next front c.in-Some.path.now _ _ (sym c.in-Some.ensures)
    ∙ ap (λ xs. after xs (gone_in rest)) (sym c.in_ok-push_gone.ensures)

pub returns-clause-ok : goal.returns-clause-ok
returns-clause-ok c =
    let over : length c.args.items.now ≤ c.loop-item.item-index = omega (arith, c.loop-item-test.false, c.loop-item.auto.item-index-end) in
    let front = map change_of c.loop-item.changes.items in
    c.loop-item.invariant
    ∙ ap (λ vs. after front (gone_in (items_view vs))) (drop_all c.loop-item.item-index c.args.items.now over)
    ∙ gone_done front
