-- The labels that a text loads.
use Rattle.std.specs.Prelude.{◌≡◌, ◌↔◌, ℕ, List, Ok, Contains}
use Rattle.star_label.specs.Label.{Reads, label_text, package_of}
use Rattle.star_parser.specs.Sources.{Parses}
use Rattle.star_scope.specs.Loads.{Written, written}
use Rattle.star_tree.specs.declared.tree.Tree.{Tree}
use Rattle.star_words.specs.Rows.{IsIn}

-- the text of a file in the package `here` parses, and one of its load statements names the label
abbrev pub LoadsLabel : List ℕ → List ℕ → List ℕ → Type 0
LoadsLabel here text label =
    (tree : Tree) × Parses text (Ok tree) × (w : Written) × Contains (written tree.statements) w
    × (p : List ℕ) × (n : List ℕ) × Reads here w.module_string.text p n × (label ≡ label_text p n)

-- these are the labels that the file with this label and text loads
abbrev pub AreLoads : List ℕ → List ℕ → List (List ℕ) → Type 0
AreLoads label text loads = (m : List ℕ) → IsIn m loads ↔ LoadsLabel (package_of label) text m
