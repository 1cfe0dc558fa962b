use Rattle.std.proofs.Common.{◌≡◌, rules, subst, sym}
use Rattle.std.specs.Arc.{arc_value}
use Rattle.star_memo.specs.Parses.{IsParse}
use Rattle.star_memo.proofs.readings.Arena.view_of.Goals as goal

pub returns-in-Ok : goal.returns-in-Ok
returns-in-Ok g c =
    let same : c.deref.result.now ≡ arc_value c.args.parse.now = search rules in
    λ text is. c.view.ensures text (subst (IsParse text) (sym same) is)
