use Rattle.std.proofs.Common.{◌≡◌, ◌⊎◌, ℕ, rules, subst}
use Rattle.std.specs.Prelude.{◌↔◌}
use Rattle.star_outcome.specs.Numbers.{Has}
use Rattle.star_outcome.proofs.Blocks.{numbers_all, numbers_more, numbers_none}
use Rattle.star_outcome.proofs.store_row.numbers_of.Goals as goal

pub loop-reach-init : goal.loop-reach-init
loop-reach-init c = rw c.new-numbers.ensures (numbers_none c.args.stores.now)

pub loop-reach-preserved : goal.loop-reach-preserved
loop-reach-preserved c =
    numbers_more c.args.stores.now c.loop-reach.reach-index c.reach-item.result c.loop-reach.numbers c.make_room.new.self c.insert.new.self c.loop-reach-test.true c.reach-item.is c.in_ok-make_room.ensures.same
    (subst (λ n. (k : ℕ) → Has c.insert.new.self k ↔ ((k ≡ n) ⊎ Has c.make_room.new.self k)) c.number-number.ensures c.insert.ensures)
    c.loop-reach.invariant

pub returns : goal.returns
returns c = numbers_all c.args.stores.now c.loop-reach.reach-index c.loop-reach.numbers (search rules) c.loop-reach.invariant
