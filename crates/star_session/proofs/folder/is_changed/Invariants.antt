use Rattle.std.proofs.Common.{◌≡◌, drop, map}
use Rattle.star_label.specs.View.{text_of}
use Rattle.star_session.specs.Changes.{change_of}
use Rattle.star_session.specs.Folders.{is_changed}
use Rattle.star_session.proofs.folder.is_changed.Given as goal

abbrev pub invariant-loop-change : goal.invariant-loop-change
invariant-loop-change l = is_changed (text_of l.label) (map change_of (drop l.change-index l.changes)) ≡ is_changed (text_of l.label) (map change_of l.changes)
