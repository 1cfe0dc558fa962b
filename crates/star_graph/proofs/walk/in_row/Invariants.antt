use Rattle.std.proofs.Common.{◌≡◌, ◌++◌, length, map}
use Rattle.star_label.specs.View.{text_of}
use Rattle.star_repo.specs.Views.{labels_of}
use Rattle.star_graph.proofs.walk.in_row.Given as goal

abbrev pub invariant-loop-label : goal.invariant-loop-label
invariant-loop-label l = map text_of l.row.items ++ labels_of l.labels.keys ≡ labels_of l.initial.labels.keys

abbrev pub decreases-loop-label : goal.decreases-loop-label
decreases-loop-label l = length l.labels.keys
