use Rattle.std.proofs.Common.{◌≡◌, drop, map}
use Rattle.std.specs.List.{list_all}
use Rattle.star_meaning.specs.Values.{content}
use Rattle.star_meaning.specs.Orders.{is_int}
use Rattle.star_builtin.proofs.sorted.are_ints.Given as goal

abbrev pub invariant-loop-value : goal.invariant-loop-value
invariant-loop-value l = let f = content l.setting l.machine in list_all is_int (map f (drop l.value-index l.values)) ≡ list_all is_int (map f l.values)
