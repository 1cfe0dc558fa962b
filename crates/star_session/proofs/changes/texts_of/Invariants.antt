use Rattle.std.proofs.Common.{◌≡◌, map, take}
use Rattle.star_label.specs.Files.{file_of}
use Rattle.star_session.proofs.changes.texts_of.Given as goal

abbrev pub invariant-loop-n : goal.invariant-loop-n
invariant-loop-n l = map file_of l.texts.entries ≡ take l.n l.files
