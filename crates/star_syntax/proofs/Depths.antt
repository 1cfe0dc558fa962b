-- The reading of the parts that hold themselves, one depth down.
use Rattle.std.proofs.Common.{◌≡◌, ℕ, suc, ◌-◌, ◌<◌, ◌≤◌, List, None, ap, arith}
use Rattle.star_syntax.specs.declared.leaf.ValuedToken.{ValuedToken}
use Rattle.star_syntax.specs.Grammar.{Rule, sort, Part, step, run}

pub nested : (rule : (r : Rule) → Part (sort r)) (n : ℕ) (r : Rule) (ts : List ValuedToken) → 0 < n → run rule n r ts ≡ step (run rule (n - 1)) (rule r) ts
unfolding run
nested rule n r ts some =
    let e : n ≡ suc (n - 1) = omega arith in
    ap (λ m. run rule m r ts) e

pub too_deep : (rule : (r : Rule) → Part (sort r)) (n : ℕ) (r : Rule) (ts : List ValuedToken) → n ≤ 0 → run rule n r ts ≡ None
unfolding run
too_deep rule n r ts over =
    let none : n ≡ 0 = omega arith in
    ap (λ m. run rule m r ts) none

-- the steps of a reader that counts the depth down
pub ruleset depths = (nested, too_deep)
