use Rattle.std.proofs.Common.{◌≡◌, [], map, true}
use Rattle.std.specs.List.{list_all}
use Rattle.star_label.specs.Files.{file_of}
use Rattle.star_bundle.specs.Bundle.{is_label, with_files}
use Rattle.star_bundle.specs.View.{member_view}
use Rattle.star_bundle.proofs.bundle.labelled.Given as goal

abbrev pub invariant-loop-key : goal.invariant-loop-key
invariant-loop-key l =
    (goal.iterator-loop-key).can_next l.key-iterator × (goal.iterator-loop-key).is_finite l.key-iterator
    × (list_all (λ f. is_label f.0) (map member_view l.yielded) ≡ true)
    × (map file_of l.files.entries ≡ with_files [] (map member_view l.yielded))
