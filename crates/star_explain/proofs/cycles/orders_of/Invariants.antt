use Rattle.std.proofs.Common.{◌+◌, length, sum_by}
use Rattle.star_explain.specs.Unseen.{kept}
use Rattle.star_explain.proofs.cycles.orders_of.Given as goal

abbrev pub decreases-loop-n : goal.decreases-loop-n
decreases-loop-n l = sum_by kept l.unseen.items + length l.todo.items
