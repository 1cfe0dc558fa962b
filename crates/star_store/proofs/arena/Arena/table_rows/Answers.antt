use Rattle.std.proofs.Common.{sym, ◌∙◌}
use Rattle.star_store.specs.Store.{look}
use Rattle.star_store.proofs.Tables.{rows_right}
use Rattle.star_store.proofs.arena.Arena.table_rows.Goals as goal

pub returns : goal.returns
returns c = rows_right (look c.args.self.now c.args.homes.now) c.args.home c.args.cells.now c.in-Some.count c.in_ok-rows_to.field-0.contents c.in_ok-rows_to.field-0.addresses.items c.requires (sym c.is_closed.ensures ∙ c.if-not-is_closed.false) c.in-Some.ensures c.in_ok-rows_to.ensures
