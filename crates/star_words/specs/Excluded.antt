-- What is left out of the files below a folder: the entries that patterns cover.
use Rattle.std.specs.Prelude.{◌≡◌, ◌⊎◌, ℕ, List, [], ◌∷◌, ◌++◌, ◌==◌, Bool, true, false, not, map}
use Rattle.std.specs.List.{filter, list_any}
use Rattle.std.specs.Str.{trim}
use Rattle.std.specs.Str.Lines.{lines}
use Rattle.star_folder.specs.declared.folder.Kind.{Kind}
use Rattle.star_folder.specs.declared.folder.Kind.TheVariants.{Folder}
use Rattle.star_label.specs.Label.{with_folder}
use Rattle.star_words.specs.Glob.{Matches}
use Rattle.star_words.specs.Rows.{IsIn}

-- a line without the blanks around it is a pattern, unless it is empty or begins with `#`, 35
abbrev pub is_pattern : List ℕ → Bool
is_pattern [] = false
is_pattern (b ∷ bs) = not (b == 35)

-- the patterns in a file that says what is left out: one a line, without the blanks around it
abbrev pub patterns_of : List ℕ → List (List ℕ)
patterns_of text = filter is_pattern (map trim (lines text))

abbrev pub has_slash : List ℕ → Bool
has_slash pattern = list_any (λ b. b == 47) pattern

-- A pattern without a slash, 47, covers an entry whose name it matches; one with a slash an entry whose path below the
-- top it matches, with or without a slash before it.
abbrev pub Covers : List ℕ → List ℕ → List ℕ → Type 0
Covers path name pattern =
    ((has_slash pattern ≡ false) × Matches pattern name)
    ⊎ ((has_slash pattern ≡ true) × (Matches pattern path ⊎ Matches pattern (47 ∷ path)))

-- a pattern ends in a slash, and covers the entry without it
abbrev pub CoversCut : List ℕ → List ℕ → List ℕ → Type 0
CoversCut path name pattern = (front : List ℕ) × (pattern ≡ front ++ 47 ∷ []) × Covers path name front

-- a pattern leaves out an entry that it covers, and a folder that it covers without a slash at its end
abbrev pub LeavesOut : Kind → List ℕ → List ℕ → List ℕ → Type 0
LeavesOut kind path name pattern = Covers path name pattern ⊎ ((kind ≡ Folder) × CoversCut path name pattern)

-- one of the patterns leaves it out
abbrev pub OneLeavesOut : List (List ℕ) → Kind → List ℕ → List ℕ → Type 0
OneLeavesOut patterns kind path name = (p : List ℕ) × IsIn p patterns × LeavesOut kind path name p

-- .. and it is the entry of this name in the folder at a path
abbrev pub IsLeftOut : List (List ℕ) → Kind → List ℕ → List ℕ → Type 0
IsLeftOut patterns kind folder name = OneLeavesOut patterns kind (with_folder folder name) name
