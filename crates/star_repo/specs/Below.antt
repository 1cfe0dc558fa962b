-- Which files a folder of a disk has, by where the paths in it lead.
use Rattle.std.specs.Prelude.{ℕ, List, [], ◌∷◌, Bool, true, Option, Some, None, length, drop, take, nat_eq, option_map, if◌then◌else◌, ◌||◌, ◌&&◌, not}
use Rattle.std.specs.Str.{bytes_eq}
use Rattle.std.specs.List.{ends_with, starts_with}
use Rattle.star_label.specs.Label.{name_of, package_of, with_folder}
use Rattle.star_folder.specs.Disk.{file_at}
use Rattle.star_folder.specs.Drive.{Drive}
use Rattle.star_repo.specs.Held.{Said, unmarked}
use Rattle.star_repo.specs.declared.top.Links.{Links}
use Rattle.star_repo.specs.declared.top.Links.TheVariants.{Anywhere, Inside, Never}

abbrev pub slash : List ℕ
slash = 47 ∷ []

-- the folder of the system's own files, `/proc`
abbrev pub proc : List ℕ
proc = 47 ∷ 112 ∷ 114 ∷ 111 ∷ 99 ∷ []

-- a path is that of a folder, or of what lies below it
abbrev pub is_within : List ℕ → List ℕ → Bool
is_within folder path =
    bytes_eq (take (length folder) path) folder
    && (bytes_eq (drop (length folder) path) [] || starts_with nat_eq (drop (length folder) path) slash
    || ends_with nat_eq folder slash)

abbrev pub without_slash : List ℕ → List ℕ
without_slash path = if starts_with nat_eq path slash then drop 1 path else path

-- a path in a folder leads there by itself, over no link
abbrev pub is_direct : List ℕ → List ℕ → List ℕ → Bool
is_direct folder inner real = is_within folder real && bytes_eq (without_slash (drop (length folder) real)) inner

-- links are followed so far that a path in a folder leads to what has this real path
abbrev pub follows : Links → List ℕ → List ℕ → List ℕ → Bool
follows Anywhere folder inner real = true
follows Inside folder inner real = is_within folder real
follows Never folder inner real = is_direct folder inner real

-- what has this real path is of the folder: it is none of the system's own files, and links are followed so far
abbrev pub belongs : Links → List ℕ → List ℕ → List ℕ → Bool
belongs links folder inner real = not (is_within proc real) && follows links folder inner real

-- what is there by the real path of what a path leads to, if the disk tells it, and by the file there
abbrev pub there : Links → List ℕ → List ℕ → Option (Option (List ℕ)) → Option (Option (List ℕ)) → Option (Option (List ℕ))
there links folder inner None file = None
there links folder inner (Some None) file = Some None
there links folder inner (Some (Some real)) file =
    if belongs links folder inner real then option_map (option_map unmarked) file else Some None

-- the path of the file of a label in the folder
abbrev pub inner_of : List ℕ → List ℕ
inner_of label = with_folder (package_of label) (name_of label)

-- the files of the folder at a path of a disk, which has this real path, by label: as far as the disk tells, the text of
-- the file that the label's path leads to, if it is of the folder
abbrev pub files_at : Drive → List ℕ → List ℕ → Links → Said
files_at drive top real links label =
    there links real (inner_of label) (drive.real (file_at top label)) (drive.file (file_at top label))
