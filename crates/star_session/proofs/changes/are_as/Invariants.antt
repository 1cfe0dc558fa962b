use Rattle.std.proofs.Common.{◌≡◌, drop, map}
use Rattle.star_session.specs.Changes.{change_of, files_after}
use Rattle.star_session.proofs.changes.are_as.Given as goal

abbrev pub invariant-loop-change : goal.invariant-loop-change
invariant-loop-change l = files_after l.files (map change_of l.changes) ≡ files_after l.files (map change_of (drop l.change-index l.changes))
