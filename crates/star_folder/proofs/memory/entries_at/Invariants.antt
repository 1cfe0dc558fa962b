use Rattle.std.proofs.Common.{◌≡◌, [], drop, map}
use Rattle.star_folder.specs.Folder.{entry_of}
use Rattle.star_folder.specs.Memory.{with_rows}
use Rattle.star_folder.proofs.memory.entries_at.Given as goal

abbrev pub invariant-loop-row : goal.invariant-loop-row
invariant-loop-row l = with_rows l.path (map entry_of l.entries.entries) (drop l.row-index l.rows) ≡ with_rows l.path [] l.rows
