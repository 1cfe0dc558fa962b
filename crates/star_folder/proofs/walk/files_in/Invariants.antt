use Rattle.std.proofs.Common.{◌≡◌, ◌+◌, ◌-◌, List, length}
use Rattle.star_folder.specs.Views.{left_of}
use Rattle.star_folder.specs.Walk.{IsWalk, Visit}
use Rattle.star_folder.proofs.Steps.{IsCounted}
use Rattle.star_folder.proofs.walk.files_in.Given as goal

abbrev pub invariant-loop-place : goal.invariant-loop-place
invariant-loop-place g l = record {
  walk : (vs : List Visit) × IsCounted vs l.walk × IsWalk (g.F.Folder.holds l.initial.folder) vs (left_of l.walk.places.items);
  same : g.F.Folder.holds l.folder ≡ g.F.Folder.holds l.initial.folder;
  listings : g.F.Folder.failed_listings l.folder ≡ g.F.Folder.failed_listings l.initial.folder;
  reads : g.F.Folder.failed_reads l.folder ≡ g.F.Folder.failed_reads l.initial.folder;
}

abbrev pub decreases-loop-place : goal.decreases-loop-place
decreases-loop-place g l = (100000 - l.walk.listed) + length l.walk.places.items
