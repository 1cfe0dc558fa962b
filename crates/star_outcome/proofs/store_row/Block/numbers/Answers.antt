use Rattle.std.proofs.Common.{sym, subst}
use Rattle.star_outcome.specs.Numbers.{AreNumbersOf}
use Rattle.star_outcome.proofs.store_row.Block.numbers.Goals as goal

pub returns : goal.returns
returns c =
    subst (AreNumbersOf c.as_slice.result.now) c.self.view_is
    (subst (λ ws. AreNumbersOf ws c.self.inside.stores.items) (sym c.as_slice.ensures.value) c.self.invariant)
