use Rattle.std.proofs.Common.{◌≡◌, take, true}
use Rattle.std.specs.List.{list_all}
use Rattle.star_reading.specs.Record.{is_recordable}
use Rattle.star_reading.proofs.record.are_recordable.Given as goal

abbrev pub invariant-loop-name : goal.invariant-loop-name
invariant-loop-name l = list_all is_recordable (take l.name-index l.names) ≡ true
