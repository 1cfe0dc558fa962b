-- The paths of the files of a folder on the disk, the kinds of its entries, and its errors.
use Rattle.std.specs.Prelude.{◌≡◌, ℕ, List, [], ◌∷◌, ◌++◌, if◌then◌else◌, ◌==◌}
use Rattle.std.specs.IoError.{error_kind}
use Rattle.std.specs.Str.{bytes_eq}
use Rattle.std.specs.declared.fs.attrs.FileType.{FileType}
use Rattle.std.specs.declared.io.Error.{Error}
use Rattle.std.specs.declared.io.ErrorKind.TheVariants.{OutOfMemory}
use Rattle.star_label.specs.Label.{name_of, package_of}
use Rattle.star_folder.specs.declared.folder.Kind.{Kind}
use Rattle.star_folder.specs.declared.folder.Kind.TheVariants as kind

-- the path of a folder in the folder at `top`: `top`, `/`, and its own path. If `top` is empty, it is its own path
-- alone.
abbrev pub folder_at : List ℕ → List ℕ → List ℕ
folder_at top path = if bytes_eq top [] then path else top ++ 47 ∷ path

-- the path of the file of a label in the folder at `top`: the path of the folder of its package, `/`, and its name
abbrev pub file_at : List ℕ → List ℕ → List ℕ
file_at top label = folder_at top (package_of label) ++ 47 ∷ name_of label

-- the kind of an entry, by the type that the disk gives it: a regular file, a directory, or something else
abbrev pub kind_of : FileType → Kind
kind_of t = if t.bits == 0o100000 then kind.File else (if t.bits == 0o040000 then kind.Folder else kind.Other)

-- an error says that an allocation failed
abbrev pub IsOfMemory : Error → Type 0
IsOfMemory e = error_kind e ≡ OutOfMemory
