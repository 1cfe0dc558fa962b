use Rattle.std.proofs.Common.{◌≡◌, drop}
use Rattle.std.specs.List.{list_all}
use Rattle.star_enter.specs.Ordered.{is_set}
use Rattle.star_enter.proofs.ordered.are_set.Given as goal

abbrev pub invariant-loop-slot : goal.invariant-loop-slot
invariant-loop-slot l = list_all (is_set l.slots) (drop l.slot-index l.needed) ≡ list_all (is_set l.slots) l.needed
