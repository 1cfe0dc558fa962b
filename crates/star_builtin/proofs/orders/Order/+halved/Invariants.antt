use Rattle.star_builtin.proofs.orders.Order.+halved.Given as goal

abbrev pub decreases-halved : goal.decreases-halved
decreases-halved l = l.depth
