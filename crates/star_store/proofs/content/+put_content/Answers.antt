use Rattle.std.proofs.Common.{◌≡◌, ◌≤◌, ap, append-nil, arith, drop, length, sym, ◌∙◌, None, Some}
use Rattle.std.proofs.Math.ListN.{drop_of_length-le}
use Rattle.std.proofs.lemmas.Grind.{common_steps}
use Rattle.star_store.specs.Content.{after, content, content_each}
use Rattle.star_store.specs.Store.{look}
use Rattle.star_store.proofs.content.+put_content.Goals as goal

pub put_row-returns-then-not-branch : goal.put_row-returns-then-not-branch
put_row-returns-then-not-branch t c =
    let f = content (look c.args.arena.now c.args.homes.now) c.args.levels in
    let stop : after c.loop-item.atoms.items (content_each f (drop c.loop-item.item-index c.args.items.now)) ≡ None = grind (arith, common_steps) in
    sym c.loop-item.invariant ∙ stop

pub put_row-returns : goal.put_row-returns
put_row-returns t c =
    let f = content (look c.args.arena.now c.args.homes.now) c.args.levels in
    let past : length c.args.items.now ≤ c.loop-item.item-index = omega (arith, ap length c.as_slice-item-items.ensures) in
    sym c.loop-item.invariant
    ∙ ap (λ ys. after c.loop-item.atoms.items (content_each f ys)) (drop_of_length-le c.args.items.now past) ∙ ap Some (append-nil c.loop-item.atoms.items)
