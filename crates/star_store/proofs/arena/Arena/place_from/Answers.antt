use Rattle.std.proofs.Common.{Option, Bor, List, ℕ, ap, subst, ◌∙◌}
use Rattle.std.specs.Option.{option_copied}
use Rattle.star_store.specs.Store.{look}
use Rattle.star_store.specs.Table.{IsRow, or_none}
use Rattle.star_store.proofs.Tables.{no_row_place_at, row_place_at}
use Rattle.star_store.proofs.arena.Arena.place_from.Goals as goal

pub returns-in_default : goal.returns-in_default
returns-in_default c = no_row_place_at (look c.args.self.now c.args.homes.now) c.args.content.now c.args.home c.args.keys.now (option_copied c.in_ok-row.field-0) (ap option_copied c.in_default.is) c.in_ok-row.ensures

pub returns : goal.returns
returns c =
    let seen = look c.args.self.now c.args.homes.now in
    c.earlier.ensures
    ∙ row_place_at seen c.args.content.now c.args.home c.first.result c.in-Some.row.now c.others-others.result.now c.args.keys.now c.far.result c.place-first.result c.earliest.result
    (subst (λ (o : Option (Bor (List ℕ))). IsRow seen c.args.content.now c.args.home (or_none (option_copied o))) c.in-Some.is c.in_ok-row.ensures)
    c.first.ensures c.others-others.ensures c.far.ensures c.place-first.ensures c.earliest.ensures
