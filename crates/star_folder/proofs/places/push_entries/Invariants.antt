use Rattle.std.proofs.Common.{◌≡◌, ◌++◌, length}
use Rattle.std.specs.List.{filter}
use Rattle.star_folder.specs.Views.{left_of, path_of}
use Rattle.star_folder.specs.Walk.{is_file, is_folder}
use Rattle.star_folder.proofs.Stacks.{met}
use Rattle.star_folder.proofs.places.push_entries.Given as goal

abbrev pub invariant-loop-name : goal.invariant-loop-name
invariant-loop-name l = record {
  files : filter is_file (met (path_of l.path) l.listing.entries) ++ left_of l.files.items ≡ filter is_file (met (path_of l.path) l.initial.listing.entries);
  folders : filter is_folder (met (path_of l.path) l.listing.entries) ++ left_of l.places.items ≡ filter is_folder (met (path_of l.path) l.initial.listing.entries) ++ left_of l.initial.places.items;
}

abbrev pub decreases-loop-name : goal.decreases-loop-name
decreases-loop-name l = length l.listing.entries
