use Rattle.std.proofs.Common.{List, subst, sym}
use Rattle.star_store.specs.declared.values.HeapCell.{HeapCell}
use Rattle.star_store.specs.Index.{AreIndexed}
use Rattle.star_store.proofs.Indexes.{made_indexed}
use Rattle.star_store.proofs.arena.Arena.make.Goals as goal

pub invariant_of-self-2 : goal.invariant_of-self-2
invariant_of-self-2 c =
    subst (λ (cells : List HeapCell). AreIndexed (record { home = c.self.inside.home; cells = cells }) c.self.inside.indexes.items) (sym c.in_ok-push.ensures.items)
    (made_indexed c.self.inside.home c.self.inside.cells.items _ c.self.inside.indexes.items c.self.invariant)
