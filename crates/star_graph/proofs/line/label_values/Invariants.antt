use Rattle.std.proofs.Common.{◌≡◌, map, take}
use Rattle.serde_json.specs.Data.{string}
use Rattle.serde_json.specs.View.{view}
use Rattle.star_label.specs.View.{text_of}
use Rattle.star_graph.proofs.line.label_values.Given as goal

abbrev pub invariant-loop-label : goal.invariant-loop-label
invariant-loop-label l = map view l.values.items ≡ map string (map text_of (take l.label-index l.labels))
