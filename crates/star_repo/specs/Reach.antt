-- The labels that roots reach in a folder, and the files of a run.
use Rattle.std.specs.Prelude.{◌≡◌, ◌↔◌, ℕ, List, Option, Some, Contains}
use Rattle.star_label.specs.Files.{File, IsOrdered}
use Rattle.star_label.specs.Label.{package_of}
use Rattle.star_repo.specs.Held.{Held}
use Rattle.star_repo.specs.Loading.{LoadsLabel}

-- the words of a run: the labels of the roots, and the prelude's
pub record Words : Type 0 where
  pub roots : List (List ℕ)
  pub prelude : Option (List ℕ)

-- the least set of labels that has the roots and the prelude, and all labels that the text of each member loads
pub data IsReachedOf (held : Held) (words : Words) : List ℕ → Type 0 where
  root : {l : List ℕ} → Contains words.roots l → IsReachedOf held words l
  prelude : {l : List ℕ} → words.prelude ≡ Some l → IsReachedOf held words l
  load : {l m text : List ℕ} → IsReachedOf held words l → held l ≡ Some text → LoadsLabel (package_of l) text m
      → IsReachedOf held words m

-- the files of a run: those at the reached labels, in the order of their labels
pub record AreReachedFiles (held : Held) (words : Words) (files : List File) : Type 0 where
  pub ordered : IsOrdered files
  pub are : (l text : List ℕ) → Contains files (l, text) ↔ (IsReachedOf held words l × (held l ≡ Some text))
