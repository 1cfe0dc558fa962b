use Rattle.std.proofs.Common.{◌≡◌, ◌-◌, Some}
use Rattle.star_meaning.specs.Places.{frame_above}
use Rattle.star_world.proofs.variables.frame_above.Given as goal

abbrev pub invariant-loop-i : goal.invariant-loop-i
invariant-loop-i l = frame_above l.setting l.machine (l.up - l._i) l.found ≡ frame_above l.setting l.machine l.up (Some l.fn.frame)
