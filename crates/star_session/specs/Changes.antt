-- The files of requests, and the files after changes.
use Rattle.std.specs.Prelude.{◌≡◌, ◌<◌, ℕ, All, IsSome, List, [], ◌∷◌, Option, Some, None, String, length, option_map, string_bytes}
use Rattle.std.specs.declared.alloc.Global.{Global}
use Rattle.std.specs.BTreeMap.{insert_entry, is_at}
use Rattle.std.specs.Map.{remove_entry}
use Rattle.std.specs.Cmp.Lexicographic.{slice_cmp}
use Rattle.std.specs.Ordering.{nat_cmp}
use Rattle.star_label.specs.declared.label.Label.{Label}
use Rattle.star_label.specs.Files.{File, label_at}
use Rattle.star_label.specs.View.{text_of}

-- a change: a label with its new text, or with none where its file goes
abbrev pub Change : Type 0
Change = List ℕ × Option (List ℕ)

-- files in the order of their labels, after a change
abbrev pub changed : List File → List ℕ → Option (List ℕ) → List File
changed files label None = remove_entry (is_at (slice_cmp nat_cmp label)) files
changed files label (Some text) = insert_entry (slice_cmp nat_cmp) files label text

-- .. after several, one after another
unfoldable pub files_after : List File → List Change → List File
files_after files [] = files
files_after files (c ∷ cs) = files_after (changed files c.0 c.1) cs

abbrev pub change_of : Label × Option (String Global) → Change
change_of c = (text_of c.0, option_map string_bytes c.1)

-- a file has this label
abbrev pub HasFile : List File → List ℕ → Type 0
HasFile files label = (n : ℕ) × (n < length files) × (label_at files n ≡ label)

-- a change gives a text to a file that is there
abbrev pub GivesText : List File → Label × Option (String Global) → Type 0
GivesText files c = HasFile files (text_of c.0) × IsSome c.1

abbrev pub AreTexts : List File → List (Label × Option (String Global)) → Type 0
AreTexts files changes = All (GivesText files) changes
