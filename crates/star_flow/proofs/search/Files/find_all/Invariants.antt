use Rattle.std.proofs.Common.{◌+◌, length, sum_by}
use Rattle.star_flow.specs.Searches.{kept}
use Rattle.star_flow.proofs.search.Files.find_all.Given as goal

abbrev pub decreases-loop-n : goal.decreases-loop-n
decreases-loop-n l = sum_by kept l.self.states.items + length l.todo.items
