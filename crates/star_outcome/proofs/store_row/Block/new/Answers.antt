use Rattle.std.proofs.Common.{ℕ, List, map, subst}
use Rattle.std.specs.Prelude.{◌↔◌, Contains}
use Rattle.star_outcome.specs.Numbers.{Has}
use Rattle.star_outcome.specs.Reaches.{ReachView}
use Rattle.star_outcome.proofs.Blocks.{words_of}
use Rattle.star_outcome.proofs.store_row.Block.new.Goals as goal

pub invariant_of-result : goal.invariant_of-result
invariant_of-result c =
    words_of c.in_ok-numbers.numbers.items c.in_ok-set.set c.args.stores.items c.in_ok-numbers.ensures
    (subst (λ (rs : List ReachView). (k : ℕ) → Has c.in_ok-set.set k ↔ Contains (map (λ (r : ReachView). r.number) rs) k) c.as_slice.ensures.value c.in_ok-set.ensures)
