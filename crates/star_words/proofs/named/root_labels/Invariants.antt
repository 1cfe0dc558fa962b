use Rattle.std.proofs.Common.{List, ℕ, take}
use Rattle.std.specs.Prelude.{◌↔◌}
use Rattle.star_words.specs.Named.{AllLabels, labels_of, texts_of}
use Rattle.star_words.specs.Rows.{IsIn}
use Rattle.star_words.proofs.named.root_labels.Given as goal

abbrev pub invariant-loop-root : goal.invariant-loop-root
invariant-loop-root l = record {
  all : AllLabels (texts_of (take l.root-index l.roots));
  are : (m : List ℕ) → IsIn m (labels_of l.labels.keys) ↔ IsIn m (texts_of (take l.root-index l.roots));
}
