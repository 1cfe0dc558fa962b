use Rattle.std.proofs.Common.{◌≡◌, ◌≤◌, ap, arith, drop, length, sym, ◌∙◌, subst}
use Rattle.std.proofs.Math.ListN.{drop_of_length-le}
use Rattle.std.proofs.lemmas.Grind.{common_steps}
use Rattle.star_store.specs.Key.{check, check_each}
use Rattle.star_store.specs.Spend.{Spends}
use Rattle.star_store.specs.Store.{look}
use Rattle.star_store.proofs.key.+check.Goals as goal

pub check_each-returns-in_err-check-clause-answer : goal.check_each-returns-in_err-check-clause-answer
check_each-returns-in_err-check-clause-answer t c =
    let f = check (look c.args.arena.now c.args.homes.now) c.args.levels in
    let stop : Spends (check_each f (drop c.loop-item.item-index c.args.items.now) c.loop-item.steps) c.from_residual.result c.check.new.steps = grind (arith, common_steps) in
    subst (λ o. Spends o c.from_residual.result c.check.new.steps) c.loop-item.invariant.rest stop

pub check_each-returns-clause-answer : goal.check_each-returns-clause-answer
check_each-returns-clause-answer t c =
    let f = check (look c.args.arena.now c.args.homes.now) c.args.levels in
    let past : length c.args.items.now ≤ c.loop-item.item-index = omega (arith, ap length c.as_slice-item-items.ensures) in
    sym c.loop-item.invariant.rest ∙ ap (λ ys. check_each f ys c.loop-item.steps) (drop_of_length-le c.args.items.now past)
