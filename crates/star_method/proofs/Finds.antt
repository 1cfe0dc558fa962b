-- A place that is found lies within the ends.
use Rattle.std.proofs.Common.{◌≡◌, ℕ, zero, suc, ◌+◌, ◌-◌, ◌<◌, ◌≤◌, Bool, true, false, List, length, Some, if◌then◌else◌, arith}
use Rattle.star_meaning.specs.Operators.{first_place, place_between, stands_at}

first_turn : (t u : List ℕ) (n i j : ℕ) (e : Bool) → (first_place t u n (i + 1) ≡ Some j → (i + 1 ≤ j) × (j < i + 1 + n)) → (if e then Some i else first_place t u n (i + 1)) ≡ Some j → (i ≤ j) × (j < i + suc n)
first_turn t u n i j true f h = let e : i ≡ j = cc in (omega arith, omega arith)
first_turn t u n i j false f h = let k = f h in (omega arith, omega arith)

first_within : (t u : List ℕ) (n i j : ℕ) → first_place t u n i ≡ Some j → (i ≤ j) × (j < i + n)
first_within t u zero i j h = cc
first_within t u (suc n) i j h = first_turn t u n i j (stands_at t u i) (first_within t u n (i + 1) j) h

pub place_within : (t u : List ℕ) (a b j : ℕ) → place_between t u a b ≡ Some j → j ≤ b
place_within t u a b j h = let k = first_within t u (b + 1 - (a + length u)) a j h in omega arith
