-- The program's states of a walk, as contracts see them.
use Rattle.std.specs.Prelude.{◌≡◌, ℕ, ◌+◌, List, ◌++◌, map, reverse, length, string_bytes}
use Rattle.star_label.specs.Files.{file_of}
use Rattle.star_label.specs.View.{text_of}
use Rattle.star_bundle.specs.Bundle.{with_files}
use Rattle.star_folder.specs.Folder.{Contents}
use Rattle.star_folder.specs.Walk.{FileOf, FolderAt, Passes, Place, Tells, Visit, bytes_at, entries_at, files_at, opened, place_of}
use Rattle.star_folder.specs.declared.path.FolderPath.{FolderPath}
use Rattle.star_folder.specs.declared.places.Found.{Found}
use Rattle.star_folder.specs.declared.places.Found.TheVariants as to
use Rattle.star_folder.specs.declared.state.Walk.{Walk}

abbrev pub path_of : FolderPath → List ℕ
path_of p = string_bytes p.text

abbrev pub place_view : Found → Place
place_view (to.File label) = FileOf (text_of label)
place_view (to.Folder path) = FolderAt (path_of path)

-- a stack of places: the next one is on top, at the end of the row
abbrev pub left_of : List Found → List Place
left_of places = map place_view (reverse places)

-- from one state of a walk to the next a place was visited so
pub record Goes (held : Contents) (before after : Walk) (place : Place) (v : Visit) : Type 0 where
  pub is_of : place_of v ≡ place
  pub tells : Tells held v
  pub passes : Passes before.listed before.count before.size v
  pub left : left_of after.places.items ≡ opened v ++ left_of before.places.items
  pub found : map file_of after.found.entries ≡ with_files (map file_of before.found.entries) (files_at v)
  pub listed : after.listed ≡ before.listed + entries_at v
  pub count : after.count ≡ before.count + length (files_at v)
  pub size : after.size ≡ before.size + bytes_at v
