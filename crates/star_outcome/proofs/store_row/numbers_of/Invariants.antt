use Rattle.std.proofs.Common.{ℕ, map, take}
use Rattle.std.specs.Prelude.{◌↔◌, Contains}
use Rattle.star_outcome.specs.Numbers.{Has}
use Rattle.star_outcome.specs.Reaches.{ReachView}
use Rattle.star_outcome.proofs.store_row.numbers_of.Given as goal

abbrev pub invariant-loop-reach : goal.invariant-loop-reach
invariant-loop-reach l = (k : ℕ) → Has l.numbers k ↔ Contains (map (λ (r : ReachView). r.number) (take l.reach-index l.stores)) k
