use Rattle.std.proofs.Common.{rules, ◌≡◌, ◌-◌, suc, arith}
use Rattle.star_builtin.specs.Orders.{precedes}
use Rattle.star_builtin.proofs.Merging.{both_halves}
use Rattle.star_builtin.proofs.orders.Order.+halved.Goals as goal

pub returns : goal.returns
returns t c =
    let n = c.args.depth - 1 in
    let more : c.args.depth ≡ suc n = omega (arith, c.if-depth-eq0.false) in
    let both = both_halves (precedes c.args.self.now) n c.args.pairs.now c.in_ok-front.front.items c.in_ok-rest.rest.items c.args.machine.now c.halved.new.machine c.halved-2.new.machine (search rules) (search rules) (search rules) in
    search (rules, both, more)
