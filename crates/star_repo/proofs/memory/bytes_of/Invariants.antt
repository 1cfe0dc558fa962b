use Rattle.std.proofs.Common.{◌≡◌, drop}
use Rattle.star_repo.specs.Memory.{bytes_among}
use Rattle.star_repo.proofs.memory.bytes_of.Given as goal

abbrev pub invariant-loop-file : goal.invariant-loop-file
invariant-loop-file l = bytes_among l.label (drop l.file-index l.files) ≡ bytes_among l.label l.files
