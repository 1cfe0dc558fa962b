use Rattle.std.proofs.Common.{◌≡◌, drop}
use Rattle.star_meaning.specs.BuiltIns.{best_of}
use Rattle.star_builtin.specs.Best.{better}
use Rattle.star_builtin.proofs.best.best_of.Given as goal

abbrev pub invariant-loop-item : goal.invariant-loop-item
invariant-loop-item l = let f = best_of l.setting l.levels l.line (better l.wanted) in f l.best (drop l.item-index l.rest) l.machine ≡ f l.fn.first l.rest l.fn.machine
