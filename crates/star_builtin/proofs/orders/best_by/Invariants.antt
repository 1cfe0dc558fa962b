use Rattle.std.proofs.Common.{◌≡◌, drop}
use Rattle.star_meaning.specs.Orders.{best_pair, best_by}
use Rattle.star_builtin.specs.Best.{better}
use Rattle.star_builtin.proofs.orders.best_by.Given as goal

abbrev pub invariant-loop-pair : goal.invariant-loop-pair
invariant-loop-pair l =
    best_pair l.setting l.levels l.line (better l.wanted) l.best (drop l.pair-index l.rest) l.machine
    ≡ best_by l.setting l.levels l.line (better l.wanted) l.pairs l.fn.machine
