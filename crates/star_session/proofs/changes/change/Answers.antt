use Rattle.std.proofs.Common.{map, ap, ◌∙◌}
use Rattle.star_label.specs.Files.{file_of}
use Rattle.star_session.proofs.FilesAfter.{inserted, removed}
use Rattle.star_session.proofs.changes.change.Goals as goal

pub returns-in_ok-insert-in-Some : goal.returns-in_ok-insert-in-Some
returns-in_ok-insert-in-Some c =
    let step = ap (map file_of) c.in_ok-insert-in-Some.ensures.entries ∙ inserted c.args.texts.now.entries c.args.label c.in-Some.text in
    rw c.in-Some.is step

pub returns-in-None : goal.returns-in-None
returns-in-None c =
    let step = ap (map file_of) c.remove.ensures.entries ∙ removed c.args.texts.now.entries c.args.label in
    rw c.in-None.is step
