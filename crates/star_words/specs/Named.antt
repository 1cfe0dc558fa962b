-- The labels that a run is asked for, by the texts of labels.
use Rattle.std.specs.Prelude.{◌≡◌, ◌↔◌, ◌⊎◌, ⊤, ℕ, List, [], ◌∷◌, true, false, Option, None, Some, String, map, string_bytes}
use Rattle.std.specs.declared.alloc.Global.{Global}
use Rattle.star_bundle.specs.Bundle.{is_label}
use Rattle.star_bundle.specs.declared.error.ServeError.{ServeError}
use Rattle.star_bundle.specs.declared.error.ServeError.TheVariants.{BadRoot, BadPrelude, Memory}
use Rattle.star_label.specs.declared.label.Label.{Label}
use Rattle.star_label.specs.Label.{Reads, label_text}
use Rattle.star_label.specs.View.{text_of}
use Rattle.star_words.specs.Rows.{IsIn}
use Rattle.star_words.specs.Words.{path_named}

abbrev pub labels_of : List Label → List (List ℕ)
labels_of ls = map text_of ls

abbrev pub texts_of : List (String Global) → List (List ℕ)
texts_of words = map string_bytes words

-- the texts are labels in normal form
abbrev pub AllLabels : List (List ℕ) → Type 0
AllLabels texts = (t : List ℕ) → IsIn t texts → is_label t ≡ true

-- .. and these are the labels
abbrev pub AreLabelsOf : List (List ℕ) → List (List ℕ) → Type 0
AreLabelsOf texts labels = AllLabels texts × ((l : List ℕ) → IsIn l labels ↔ IsIn l texts)

-- one of them is none
abbrev pub OneIsNone : List (List ℕ) → Type 0
OneIsNone texts = (t : List ℕ) × IsIn t texts × (is_label t ≡ false)

-- the roots and the prelude are labels in normal form
abbrev pub AreLabels : List (List ℕ) → Option (List ℕ) → Type 0
AreLabels roots prelude = AllLabels roots × ((p : List ℕ) → prelude ≡ Some p → is_label p ≡ true)

-- these are the labels of the roots and the label of the prelude
pub record AreAsked (roots : List (List ℕ)) (prelude : Option (List ℕ)) (labels : List (List ℕ)) : Type 0 where
  pub are : AreLabels roots prelude
  pub labels_are : (l : List ℕ) → IsIn l labels ↔ (IsIn l roots ⊎ (prelude ≡ Some l))

-- why there are none: a root, or else the prelude, is not a label in normal form
abbrev pub IsMisnamed : List (List ℕ) → Option (List ℕ) → ServeError → Type 0
IsMisnamed roots prelude BadRoot = OneIsNone roots
IsMisnamed roots prelude BadPrelude =
    AllLabels roots × (p : List ℕ) × (prelude ≡ Some p) × (is_label p ≡ false)
IsMisnamed roots prelude Memory = ⊤
IsMisnamed roots prelude e = ⊥

-- the label that a word names in the package `here`: itself, if the word reads as a label, or else the label of the
-- file that it leads to as a path, if there is one
abbrev pub Names : List ℕ → List ℕ → Option (List ℕ) → Type 0
Names here word found =
    ((p n : List ℕ) → Reads here word p n → found ≡ Some (label_text p n))
    × (((p n : List ℕ) → Reads here word p n → ⊥) → found ≡ path_named here word)

-- one of the words names no label
abbrev pub OneIsUnnamed : List ℕ → List (List ℕ) → Type 0
OneIsUnnamed here words = (w : List ℕ) × IsIn w words × Names here w None

-- each word names the label beside it
abbrev pub AreNamed : List ℕ → List (List ℕ) → List (List ℕ) → Type 0
AreNamed here [] [] = ⊤
AreNamed here (w ∷ ws) (l ∷ ls) = Names here w (Some l) × AreNamed here ws ls
AreNamed here ws ls = ⊥
