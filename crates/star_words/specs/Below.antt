-- The files below a folder.
use Rattle.std.specs.Prelude.{◌≡◌, ◌⊎◌, ℕ, List, [], ◌∷◌}
use Rattle.star_folder.specs.declared.folder.Kind.TheVariants.{File, Folder}
use Rattle.star_label.specs.Label.{label_text, with_folder}
use Rattle.star_words.specs.Excluded.{IsLeftOut}
use Rattle.star_words.specs.Glob.{Matches}
use Rattle.star_words.specs.Named.{labels_of, texts_of}
use Rattle.star_words.specs.Rows.{IsIn}
use Rattle.star_words.specs.declared.pattern.Filter.{Filter}
use Rattle.star_words.specs.declared.walk.Walk.{Walk}

-- the patterns of a filter: of the names that are asked for, and of what is left out
abbrev pub named : Filter → List ℕ
named filter = filter.named.now

abbrev pub left_out : Filter → List (List ℕ)
left_out filter = texts_of filter.left_out.now

-- the path leads to the folder, or further down
abbrev pub IsInside : List ℕ → List ℕ → Type 0
IsInside top path = (path ≡ top) ⊎ ((rest : List ℕ) × (path ≡ with_folder top rest))

-- By these names, the last one first, folders lead down from the one at `top` to the one at the path, and none of them
-- is left out.
abbrev pub LeadDown : List (List ℕ) → List ℕ → List (List ℕ) → List ℕ → Type 0
LeadDown patterns top [] path = path ≡ top
LeadDown patterns top (name ∷ names) path =
    (above : List ℕ) × LeadDown patterns top names above × (IsLeftOut patterns Folder above name → ⊥)
    × (path ≡ with_folder above name)

-- the path leads to the folder, or further down through folders none of which is left out
abbrev pub IsThere : List (List ℕ) → List ℕ → List ℕ → Type 0
IsThere patterns top path = IsInside top path × (names : List (List ℕ)) × LeadDown patterns top names path

-- the label is the label of a file in the folder or further down, that a filter lets through: the pattern matches the
-- name of the file, and neither the file nor a folder on the way is left out
abbrev pub IsFileBelow : List ℕ → Filter → List ℕ → Type 0
IsFileBelow top filter label =
    (path : List ℕ) × (name : List ℕ) × (label ≡ label_text path name) × IsThere (left_out filter) top path
    × Matches (named filter) name × (IsLeftOut (left_out filter) File path name → ⊥)

abbrev pub AreBelow : List ℕ → Filter → List (List ℕ) → Type 0
AreBelow top filter labels = (l : List ℕ) → IsIn l labels → IsFileBelow top filter l

-- a walk below the folder goes on inside it, and has found such files
pub record IsWalked (top : List ℕ) (filter : Filter) (walk : Walk) : Type 0 where
  pub places : (p : List ℕ) → IsIn p (texts_of walk.places.items) → IsThere (left_out filter) top p
  pub found : AreBelow top filter (labels_of walk.found.keys)
