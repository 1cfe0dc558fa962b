use Rattle.std.proofs.Common.{◌≡◌, take, true}
use Rattle.std.specs.List.{list_all}
use Rattle.star_reading.specs.Record.{goes_on}
use Rattle.star_reading.proofs.record.all_go_on.Given as goal

abbrev pub invariant-loop-byte : goal.invariant-loop-byte
invariant-loop-byte l = list_all goes_on (take l.byte-index l.bytes) ≡ true
