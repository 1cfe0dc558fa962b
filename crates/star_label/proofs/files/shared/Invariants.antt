use Rattle.std.proofs.Common.{◌≡◌, map}
use Rattle.star_label.specs.Files.{file_of, shared_file}
use Rattle.star_label.proofs.files.shared.Given as goal

abbrev pub invariant-loop-label : goal.invariant-loop-label
invariant-loop-label l = map shared_file l.shared.items ≡ map file_of l.yielded
