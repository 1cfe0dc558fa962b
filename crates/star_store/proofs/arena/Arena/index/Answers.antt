use Rattle.std.proofs.Common.{ap, ◌∙◌}
use Rattle.star_store.specs.Index.{index_at}
use Rattle.star_store.proofs.Indexes.{told_far, told_own}
use Rattle.star_store.proofs.arena.Arena.index.Goals as goal

pub returns-then-home-self : goal.returns-then-home-self
returns-then-home-self c = told_own c.self.inside.home c.self.inside.cells.items c.args.self.now c.args.homes.now c.self.inside.indexes.items c.args.dict c.in-Ref.home c.in-Ref.at c.index_in.result c.self.view_is c.self.invariant c.in-Ref.is c.if-home-self.true (c.index_in.ensures ∙ ap (λ indexes. index_at indexes c.in-Ref.at) c.deref.ensures.value)

pub returns : goal.returns
returns c = told_far c.self.inside.home c.self.inside.cells.items c.args.self.now c.args.homes.now c.args.dict c.in-Ref.home c.in-Ref.at c.in_ok-published.field-0.now c.index.result c.self.view_is c.in-Ref.is c.if-home-self.false c.in_ok-published.ensures c.index.ensures
