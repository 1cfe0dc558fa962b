use Rattle.std.proofs.Common.{ap, sym, ◌∙◌}
use Rattle.star_store.specs.declared.values.HeapCell.{HeapCell}
use Rattle.star_store.specs.Store.{bound_cell}
use Rattle.star_store.proofs.Store.{written}
use Rattle.star_store.proofs.arena.bind_at.Goals as goal

pub returns-clause-bound : goal.returns-clause-bound
returns-clause-bound c = let f = λ (e : HeapCell). record e { cell = bound_cell c.args.slot c.args.value e.cell } in written f _ _ _ _ c.if-at-cells.false c.index-cells-at.is (c.in_ok-bind_in.ensures.bound ∙ ap f (sym c.index-cells-at.is))
