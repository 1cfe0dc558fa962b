-- The content of a folder: its entries and the bytes of its files, as far as it tells.
use Rattle.std.specs.Prelude.{◌≡◌, ⊤, ℕ, ◌≤◌, List, length, take, Option, Some, None, Result, Err, String, string_bytes}
use Rattle.std.specs.declared.alloc.Global.{Global}
use Rattle.star_folder.specs.declared.folder.Kind.{Kind}
use Rattle.star_folder.specs.declared.folder.FolderError.{FolderError}
use Rattle.star_folder.specs.declared.folder.FolderError.TheVariants.{Failed}

-- an entry of a folder: its name and its kind
abbrev pub Entry : Type 0
Entry = List ℕ × Kind

abbrev pub entry_of : String Global × Kind → Entry
entry_of e = (string_bytes e.0, e.1)

-- the entries of the folder at a path, in the byte order of their names, and the bytes of the file of a label: none if
-- the folder does not tell them
pub record Contents : Type 0 where
  pub entries : List ℕ → Option (List Entry)
  pub bytes : List ℕ → Option (List ℕ)

-- a folder that says nothing
abbrev pub unsaid : Contents
unsaid = record { entries = λ path. None; bytes = λ label. None }

-- it is just this, unless the folder does not tell it
abbrev pub Says : {A : Type 0} → Option A → A → Type 0
Says None x = ⊤
Says (Some y) x = x ≡ y

-- the bytes that are read of a file: all of them, or the first 1,048,577 if it has more
abbrev pub Reads : Option (List ℕ) → List ℕ → Type 0
Reads None bytes = length bytes ≤ 1048577
Reads (Some all) bytes = bytes ≡ take 1048577 all

-- one call failed if the answer is so, else none
abbrev pub has_failed : {T : Type 0} → Result T FolderError → ℕ
has_failed (Err Failed) = 1
has_failed r = 0
