use Rattle.std.proofs.Common.{ap, sym, ◌∙◌}
use Rattle.star_store.specs.Store.{closed_in}
use Rattle.star_store.proofs.Store.{written}
use Rattle.star_store.proofs.arena.close_at.Goals as goal

pub returns-then-at-cells : goal.returns-then-at-cells
returns-then-at-cells c = written closed_in _ _ _ _ c.if-at-cells.true c.index-cells-at.is (c.close_in.ensures ∙ ap closed_in (sym c.index-cells-at.is))
