-- The walk through a folder: its order, its files, and its stops.
use Rattle.std.specs.Prelude.{◌≡◌, ℕ, ◌+◌, ◌<◌, ◌≤◌, List, [], ◌∷◌, ◌++◌, length, map, Bool, true, false, not, ◌&&◌, Option, Some, None, if◌then◌else◌, codes}
use Rattle.std.specs.Bool.{nat_eq}
use Rattle.std.specs.Cmp.Lexicographic.{slice_cmp}
use Rattle.std.specs.List.{ends_with, filter, filter_map}
use Rattle.std.specs.List.Sorted.{IsStrictlySortedBy}
use Rattle.std.specs.Ordering.{nat_cmp}
use Rattle.std.specs.Str.{IsUtf8}
use Rattle.star_label.specs.Files.{File}
use Rattle.star_label.specs.Label.{is_segment, label_text, with_folder}
use Rattle.star_bundle.specs.Bundle.{with_files}
use Rattle.star_folder.specs.Folder.{Contents, Entry, Says}
use Rattle.star_folder.specs.declared.folder.Kind.{Kind}
use Rattle.star_folder.specs.declared.folder.Kind.TheVariants as kind

-- a place of a walk: the folder at a path, or the file of a label
pub data Place : Type 0 where
  FolderAt : (path : List ℕ) → Place
  FileOf : (label : List ℕ) → Place

abbrev pub is_file : Place → Bool
is_file (FolderAt path) = false
is_file (FileOf label) = true

abbrev pub is_folder : Place → Bool
is_folder p = not (is_file p)

-- a name ends in `.star`
abbrev pub is_star : List ℕ → Bool
is_star name = ends_with nat_eq name (codes ".star")

-- The place that an entry of the folder at a path leads to: a file whose name ends in `.star`, or a folder. None if its
-- name is not a segment.
abbrev pub leads_to : Kind → List ℕ → List ℕ → Option Place
leads_to kind.File path name = if is_star name && is_segment name then Some (FileOf (label_text path name)) else None
leads_to kind.Folder path name = if is_segment name then Some (FolderAt (with_folder path name)) else None
leads_to kind.Other path name = None

abbrev pub place_in : List ℕ → Entry → Option Place
place_in path e = leads_to e.1 path e.0

-- files first, then folders
abbrev pub files_first : List Place → List Place
files_first ps = filter is_file ps ++ filter is_folder ps

-- the visit of a place by a walk: it lists the entries of the folder, or it reads the bytes of the file
pub data Visit : Type 0 where
  Listed : (path : List ℕ) (entries : List Entry) → Visit
  Read : (label bytes : List ℕ) → Visit

abbrev pub place_of : Visit → Place
place_of (Listed path entries) = FolderAt path
place_of (Read label bytes) = FileOf label

-- the next places: the files of the folder, and then its folders
abbrev pub opened : Visit → List Place
opened (Listed path entries) = files_first (filter_map (place_in path) entries)
opened (Read label bytes) = []

-- how many entries it lists, and which file it finds
abbrev pub entries_at : Visit → ℕ
entries_at (Listed path entries) = length entries
entries_at (Read label bytes) = 0

abbrev pub files_at : Visit → List File
files_at (Listed path entries) = []
files_at (Read label bytes) = (label, bytes) ∷ []

abbrev pub bytes_at : Visit → ℕ
bytes_at (Listed path entries) = 0
bytes_at (Read label bytes) = length bytes

-- The same of all visits, the last one first. The files come in the order of their reading.
abbrev pub entries_in : List Visit → ℕ
entries_in [] = 0
entries_in (v ∷ vs) = entries_in vs + entries_at v

abbrev pub files_in : List Visit → List File
files_in [] = []
files_in (v ∷ vs) = files_in vs ++ files_at v

abbrev pub bytes_in : List Visit → ℕ
bytes_in [] = 0
bytes_in (v ∷ vs) = bytes_in vs + bytes_at v

-- the contents say so: the entries in the byte order of their names, or the bytes of the file
abbrev pub Tells : Contents → Visit → Type 0
Tells held (Listed path entries) =
    Says (held.entries path) entries × IsStrictlySortedBy (slice_cmp nat_cmp) (map (λ e. e.0) entries)
Tells held (Read label bytes) = Says (held.bytes label) bytes

-- the limits let a visit pass after a number of entries, files and bytes
abbrev pub Passes : ℕ → ℕ → ℕ → Visit → Type 0
Passes listed count size (Listed path entries) = listed + length entries ≤ 100000
Passes listed count size (Read label bytes) =
    (count < 10000) × (length bytes ≤ 1048576) × IsUtf8 bytes × (size + length bytes ≤ 268435456)

-- A walk has made these visits, the last one first, and has these places left, the next one first. It begins at the
-- top. After a folder was listed its files come next, and then its folders.
abbrev pub IsWalk : Contents → List Visit → List Place → Type 0
IsWalk held [] left = left ≡ FolderAt [] ∷ []
IsWalk held (v ∷ vs) left = (rest : List Place) × IsWalk held vs (place_of v ∷ rest) × Tells held v
    × Passes (entries_in vs) (length (files_in vs)) (bytes_in vs) v × (left ≡ opened v ++ rest)

-- the files that a whole walk finds, each at the place of its label
abbrev pub AreFilesOf : Contents → List File → Type 0
AreFilesOf held files = (visits : List Visit) × IsWalk held visits [] × (files ≡ with_files [] (files_in visits))
