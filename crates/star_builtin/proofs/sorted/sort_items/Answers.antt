use Rattle.std.proofs.Common.{rules}
use Rattle.star_builtin.proofs.sorted.sort_items.Goals as goal

pub returns-in_ok-pairs-in-Extended : goal.returns-in_ok-pairs-in-Extended
returns-in_ok-pairs-in-Extended c = rw (← c.dialect.ensures, c.in-Extended.is) (search rules)
