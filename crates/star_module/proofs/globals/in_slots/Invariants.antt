use Rattle.std.proofs.Common.{◌≡◌, ◌++◌, drop}
use Rattle.star_module.specs.Globals.{all_now, borrowed, in_slots}
use Rattle.star_module.proofs.globals.in_slots.Given as goal

abbrev pub invariant-loop-slot : goal.invariant-loop-slot
invariant-loop-slot l =
    borrowed l.found.items ++ in_slots l.world.setting (all_now (drop l.slot l.names)) (drop l.slot l.slots) ≡ in_slots l.world.setting (all_now l.names) l.slots
