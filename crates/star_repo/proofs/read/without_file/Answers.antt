use Rattle.std.proofs.Common.{map, subst, sym, None}
use Rattle.std.specs.Prelude.{All}
use Rattle.std.specs.Map.{values_of}
use Rattle.std.proofs.lemmas.Map.Views.{All-values-insert_entry}
use Rattle.star_label.specs.Files.{file_of}
use Rattle.star_label.specs.contracts.label.LabelOrd.TheImpl.{cmp-value}
use Rattle.star_repo.specs.Views.{IsRead, answers_in}
use Rattle.star_repo.specs.Way.{IsWay}
use Rattle.star_repo.proofs.Steps.{missed}
use Rattle.star_repo.proofs.read.without_file.Goals as goal

pub returns-clause-on_way : goal.returns-clause-on_way
returns-clause-on_way c = λ said words d rest new below told way.
    let found = c.args.found in
    subst (λ es. IsWay said words d (answers_in found.fresh.items es) (map file_of found.fresh.items) rest found.count found.size) (sym c.in_ok-insert.ensures.entries)
    (missed said words d found.fresh.items found.looked.entries rest found.count found.size c.args.label new below way told)

pub returns-clause-read : goal.returns-clause-read
returns-clause-read c = λ all.
    subst (λ es. All IsRead (values_of es)) (sym c.in_ok-insert.ensures.entries) (All-values-insert_entry cmp-value.it c.args.label None IsRead c.args.found.looked.entries all tt)
