use Rattle.std.proofs.Common.{sym}
use Rattle.star_store.specs.Store.{look}
use Rattle.star_store.proofs.Indexes.{none_shown}
use Rattle.star_store.proofs.Tables.{empty_row}
use Rattle.star_store.proofs.arena.Arena.row.Goals as goal

pub returns-in-None : goal.returns-in-None
returns-in-None c =
    empty_row (look c.args.self.now c.args.homes.now) c.args.content.now c.args.home
    (none_shown c.self.inside.home c.self.inside.cells.items c.args.self.now c.args.homes.now c.args.home c.self.view_is c.if-home-self.false (sym c.in-None.ensures))
