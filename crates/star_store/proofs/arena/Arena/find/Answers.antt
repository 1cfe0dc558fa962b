use Rattle.std.proofs.Common.{◌≡◌, Some, ap, sym, ◌∙◌}
use Rattle.star_store.specs.Store.{look}
use Rattle.star_store.specs.declared.values.Cell.TheVariants as cell
use Rattle.star_store.proofs.Indexes.{finds}
use Rattle.star_store.proofs.arena.Arena.find.Goals as goal

pub returns : goal.returns
returns c =
    let here : look c.args.self.now c.args.homes.now c.args.dict ≡ Some (cell.Dict c.in-Some-Dict.field-0-0) = sym c.in-Some-Dict.ensures ∙ ap Some c.in-Some-Dict.field-0-is in
    sym (finds (look c.args.self.now c.args.homes.now) c.args.key (look c.args.self.now c.args.homes.now c.args.dict) c.in-Some-Dict.field-0-0 c.key_value.result here (sym c.may_be_key.ensures ∙ c.if-not-may_be_key.false) c.key_value.ensures)
