use Rattle.std.proofs.Common.{◌≡◌, map, take}
use Rattle.serde_json.specs.Data.{string}
use Rattle.serde_json.specs.View.{view}
use Rattle.star_label.specs.Files.{label_at}
use Rattle.star_check.proofs.failed.labels_of.Given as goal

abbrev pub invariant-loop-n : goal.invariant-loop-n
invariant-loop-n l = map view l.labels.items ≡ map string (map (label_at l.files) (take l.n-index l.numbers))
