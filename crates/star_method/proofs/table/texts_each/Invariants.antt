use Rattle.std.proofs.Common.{◌≡◌, ◌++◌, drop}
use Rattle.star_method.specs.Ends.{bytes_each}
use Rattle.star_method.proofs.table.texts_each.Given as goal

abbrev pub invariant-loop-value : goal.invariant-loop-value
invariant-loop-value l = l.made ++ bytes_each l.setting l.machine (drop l.value-index l.values) ≡ bytes_each l.setting l.machine l.values
