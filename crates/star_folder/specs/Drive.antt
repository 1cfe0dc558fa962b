-- What lies at the paths of a disk, as far as it tells.
use Rattle.std.specs.Prelude.{◌≡◌, ⊤, ℕ, ◌≤◌, List, length, take, Option, Some, None}
use Rattle.std.specs.Option.{option_flatten}
use Rattle.star_folder.specs.Disk.{file_at, folder_at}
use Rattle.star_folder.specs.Folder.{Contents, Entry}

-- the entries of the folder at a path, in the byte order of their names, without those whose names are not UTF-8; the
-- bytes of the file that a path leads to, or that it leads to none; and the real path of what a path leads to, or that
-- it leads to nothing
pub record Drive : Type 0 where
  pub entries : List ℕ → Option (List Entry)
  pub file : List ℕ → Option (Option (List ℕ))
  pub real : List ℕ → Option (Option (List ℕ))

-- a disk that says nothing
abbrev pub untold : Drive
untold = record { entries = λ path. None; file = λ path. None; real = λ path. None }

-- a size is told of a file, and of nothing else
abbrev pub TellsSize : Option (Option (List ℕ)) → Option ℕ → Type 0
TellsSize None size = ⊤
TellsSize (Some None) size = size ≡ None
TellsSize (Some (Some all)) size = (n : ℕ) × (size ≡ Some n)

-- the bytes that are read of a file: all of them, or the first `most` if it has more; of what is no file none are read
abbrev pub ReadsFirst : ℕ → Option (Option (List ℕ)) → List ℕ → Type 0
ReadsFirst most None bytes = length bytes ≤ most
ReadsFirst most (Some None) bytes = ⊥
ReadsFirst most (Some (Some all)) bytes = bytes ≡ take most all

-- what the folder at a path of a disk holds
abbrev pub contents_at : Drive → List ℕ → Contents
contents_at drive top = record {
  entries = λ path. drive.entries (folder_at top path);
  bytes = λ label. option_flatten (drive.file (file_at top label));
}
