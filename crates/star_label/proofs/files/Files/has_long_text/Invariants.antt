use Rattle.std.proofs.Common.{◌≡◌, take, map, false}
use Rattle.std.specs.List.{list_any}
use Rattle.star_label.specs.Files.{shared_file, is_too_long}
use Rattle.star_label.proofs.files.Files.has_long_text.Given as goal

abbrev pub invariant-loop-entry : goal.invariant-loop-entry
invariant-loop-entry l = list_any is_too_long (map shared_file (take l.entry-index l.entry-items)) ≡ false
