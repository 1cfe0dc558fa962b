use Rattle.std.proofs.Common.{List, ap, subst, sym, ◌∙◌}
use Rattle.std.proofs.lemmas.List.{with_items_is}
use Rattle.star_store.specs.declared.values.HeapCell.{HeapCell}
use Rattle.star_store.specs.Index.{AreIndexed}
use Rattle.star_store.specs.Store.{changed_at, opened_in}
use Rattle.star_store.proofs.Indexes.{changed_indexed, opened_stays}
use Rattle.star_store.proofs.arena.Arena.open_iter.Goals as goal

pub invariant_of-self : goal.invariant_of-self
invariant_of-self c =
    subst (λ (cells : List HeapCell). AreIndexed (record { home = c.self.inside.home; cells = cells }) c.self.inside.indexes.items)
    (sym (with_items_is c.self.inside.cells c.open_at.new.cells (c.open_at.auto.cells ∙ c.deref_mut.ensures.len) ∙ c.open_at.ensures ∙ ap (λ cs. changed_at opened_in cs c.in-Ref.at) c.deref_mut.ensures.value))
    (changed_indexed c.self.inside.home c.self.inside.cells.items opened_in c.in-Ref.at c.self.inside.indexes.items opened_stays c.self.invariant)
