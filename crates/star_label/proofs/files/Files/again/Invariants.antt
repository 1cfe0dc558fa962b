use Rattle.std.proofs.Common.{◌≡◌, map, take}
use Rattle.star_label.specs.Files.{shared_file}
use Rattle.star_label.proofs.files.Files.again.Given as goal

abbrev pub invariant-loop-entry : goal.invariant-loop-entry
invariant-loop-entry l = map shared_file l.entries.items ≡ map shared_file (take l.entry-index l.entry-items)
