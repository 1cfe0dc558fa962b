use Rattle.std.proofs.Common.{◌≡◌, map, take}
use Rattle.star_reading.specs.Readings.{readings}
use Rattle.star_sound.specs.Sound.{rows_of}
use Rattle.star_check.specs.Check.{needs_in}
use Rattle.star_check.proofs.judge.needs_of.Given as goal

abbrev pub invariant-loop-entry : goal.invariant-loop-entry
invariant-loop-entry l = rows_of l.all.items ≡ map needs_in (readings (take l.entry-index l.reads.all.items))
