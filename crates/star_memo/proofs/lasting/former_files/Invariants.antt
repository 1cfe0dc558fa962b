use Rattle.std.proofs.Common.{◌≤◌}
use Rattle.star_reading.specs.Found.{Within}
use Rattle.star_memo.proofs.lasting.former_files.Given as goal

abbrev pub invariant-loop-n : goal.invariant-loop-n
invariant-loop-n l = record { within : Within l.compared.files l.changed.items; same : l.same ≤ l.n }
