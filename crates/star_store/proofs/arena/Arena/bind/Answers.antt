use Rattle.std.proofs.Common.{List, ap, subst, sym, ◌∙◌}
use Rattle.std.proofs.lemmas.List.{with_items_is}
use Rattle.star_store.specs.declared.values.HeapCell.{HeapCell}
use Rattle.star_store.specs.Index.{AreIndexed}
use Rattle.star_store.specs.Store.{bound_cell, changed_at}
use Rattle.star_store.proofs.Indexes.{bound_stays, changed_indexed}
use Rattle.star_store.proofs.arena.Arena.bind.Goals as goal

pub invariant_of-self-2 : goal.invariant_of-self-2
invariant_of-self-2 c =
    let f = λ (e : HeapCell). record e { cell = bound_cell c.args.slot c.args.value e.cell } in
    subst (λ (cells : List HeapCell). AreIndexed (record { home = c.self.inside.home; cells = cells }) c.self.inside.indexes.items)
    (sym (with_items_is c.self.inside.cells c.bind_at.new.cells (c.bind_at.auto.cells ∙ c.deref_mut.ensures.len) ∙ c.in_ok-bind_at.ensures.bound ∙ ap (λ cs. changed_at f cs c.in-Ref.at) c.deref_mut.ensures.value))
    (changed_indexed c.self.inside.home c.self.inside.cells.items f c.in-Ref.at c.self.inside.indexes.items (bound_stays c.args.slot c.args.value) c.self.invariant)
