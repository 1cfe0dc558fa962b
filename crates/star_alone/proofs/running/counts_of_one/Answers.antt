use Rattle.std.proofs.Common.{◌≡◌, ◌+◌, ℕ, zero, suc, ◌∷◌, [], fold, replicate, refl, arith, ◌∙◌}
use Rattle.star_alone.proofs.running.counts_of_one.Goals as goal

plus_zero : (a : ℕ) → a + 0 ≡ a
plus_zero a = omega arith

zero_plus : (a : ℕ) → 0 + a ≡ a
zero_plus a = omega arith

-- zeros add nothing
zeros : (n a : ℕ) → fold (λ s x. s + x) a (replicate n 0) ≡ a
zeros zero a = refl
zeros (suc n) a = zeros n (a + 0) ∙ plus_zero a

pub returns-clause-counts : goal.returns-clause-counts
returns-clause-counts c = record { each = c.args.begun ∷ []; one_each = refl; then_none = refl; all_begun = zero_plus c.args.begun }

pub returns-clause-sum : goal.returns-clause-sum
returns-clause-sum c = zeros 63 (0 + c.args.begun) ∙ zero_plus c.args.begun
