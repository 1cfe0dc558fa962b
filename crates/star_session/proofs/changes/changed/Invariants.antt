use Rattle.std.proofs.Common.{◌≡◌, map}
use Rattle.star_label.specs.Files.{file_of}
use Rattle.star_session.specs.Changes.{change_of, files_after}
use Rattle.star_session.proofs.changes.changed.Given as goal

abbrev pub invariant-loop-label : goal.invariant-loop-label
invariant-loop-label l =
    (goal.iterator-loop-label).can_next l.label-iterator × (goal.iterator-loop-label).is_finite l.label-iterator
    × (map file_of l.texts.entries ≡ files_after l.files (map change_of l.yielded))
