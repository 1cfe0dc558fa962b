use Rattle.std.proofs.Common.{◌≡◌, take}
use Rattle.star_reading.specs.Readings.{table_of}
use Rattle.star_host.proofs.table.programs.Given as goal

abbrev pub invariant-loop-read : goal.invariant-loop-read
invariant-loop-read l = l.table ≡ table_of (take l.read-index l.reads)
