use Rattle.std.proofs.Common.{arith}
use Rattle.std.proofs.lemmas.Grind.{common_steps}
use Rattle.star_store.specs.Store.{look}
use Rattle.star_visit.proofs.Orders.{order_paid, order_rows}
use Rattle.star_visit.proofs.order.+order.Goals as goal

pub ordered-returns-in-Int-Int-clause-answer : goal.ordered-returns-in-Int-Int-clause-answer
ordered-returns-in-Int-Int-clause-answer t c =
    let paid = order_paid (look c.args.arena.now c.args.homes.now) c.args.levels c.args.x c.args.y c.args.steps.now (omega arith) (omega arith) in
    grind (arith, common_steps)

pub ordered-returns-in-Some-Tuple-Some-Tuple-clause-answer : goal.ordered-returns-in-Some-Tuple-Some-Tuple-clause-answer
ordered-returns-in-Some-Tuple-Some-Tuple-clause-answer t c =
    order_rows (look c.args.arena.now c.args.homes.now) c.args.levels c.args.x c.args.y c.args.steps.now c.in-Some-Tuple-Some-Tuple.xs c.in-Some-Tuple-Some-Tuple.ys _ _ (omega arith) (omega arith) c.order_items.ensures.answer (grind (arith, common_steps))

pub ordered-returns-in-Some-List-Some-List-clause-answer : goal.ordered-returns-in-Some-List-Some-List-clause-answer
ordered-returns-in-Some-List-Some-List-clause-answer t c =
    order_rows (look c.args.arena.now c.args.homes.now) c.args.levels c.args.x c.args.y c.args.steps.now c.in-Some-List-Some-List.xs c.in-Some-List-Some-List.ys _ _ (omega arith) (omega arith) c.order_items-in-Some-List-Some-List.ensures.answer (grind (arith, common_steps))
