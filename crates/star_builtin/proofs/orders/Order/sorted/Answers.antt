use Rattle.std.proofs.Common.{rules}
use Rattle.star_meaning.specs.Values.{content}
use Rattle.star_builtin.proofs.Keyed.{contents_of_keys}
use Rattle.star_builtin.proofs.orders.Order.sorted.Goals as goal

pub in_order-requires : goal.in_order-requires
in_order-requires c = rw (← contents_of_keys (content c.args.self.now.setting.now c.args.machine.now) c.args.pairs.now) (search rules)
