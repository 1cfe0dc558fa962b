use Rattle.std.proofs.Common.{◌<◌, length, rules, subst}
use Rattle.star_label.specs.Files.{text_at}
use Rattle.star_memo.specs.Parses.{IsKept}
use Rattle.star_memo.proofs.ReadingsStay.{parse_set}
use Rattle.star_memo.proofs.readings.put_view.Goals as goal

pub returns-in_ok-view_of-clause-right : goal.returns-in_ok-view_of-clause-right
returns-in_ok-view_of-clause-right g c =
    let inside : c.args.n < length c.args.row.now.items = search rules in
    λ files is all. parse_set files c.args.row.now.items c.args.n c.in_ok-view_of.field-0 inside (c.in_ok-view_of.ensures (text_at files c.args.n) (subst (IsKept (text_at files c.args.n)) c.in-Some.is is)) all
