use Rattle.std.proofs.Common.{◌≡◌, drop}
use Rattle.star_folder.specs.Memory.{bytes_among}
use Rattle.star_folder.proofs.memory.bytes_of.Given as goal

abbrev pub invariant-loop-row : goal.invariant-loop-row
invariant-loop-row l = bytes_among l.label (drop l.row-index l.rows) ≡ bytes_among l.label l.rows
