-- Numbers that are equal or not, counts after a write, and lists that are equal at each place.
use Rattle.std.proofs.Common.{◌≡◌, ◌≢◌, ◌⊎◌, ◌+◌, ◌<◌, ℕ, List, Bool, true, false, cond, length, get_or, set, ap, inl, inr, arith, count_by}
use Rattle.std.proofs.lemmas.Bool.Decides.{eqb_tells}
use Rattle.std.proofs.lemmas.List.{length-set}
use Rattle.std.proofs.lemmas.List.Sums.{sum_by-set, count_by-le-length}

pub same_or_apart : (a b : ℕ) → (a ≡ b) ⊎ (a ≢ b)
same_or_apart a b = elim (eqb_tells a b) [ inl h ↦ inl h.1 | inr h ↦ inr h.1 ]

-- the count of an element
abbrev pub weight : Bool → ℕ
weight t = cond t 1 0

-- one more that passes
pub count_by-set_more : {X : Type 0} (p : X → Bool) (xs : List X) (i : ℕ) (y d : X) → i < length xs → p (get_or xs i d) ≡ false → p y ≡ true → count_by p (set xs i y) ≡ count_by p xs + 1
count_by-set_more {X} p xs i y d h fails passes =
    let moved = sum_by-set (λ (x : X). weight (p x)) xs i y d h in
    let before : weight (p (get_or xs i d)) ≡ 0 = ap weight fails in
    let after : weight (p y) ≡ 1 = ap weight passes in
    omega (arith, moved, before, after)

-- as many that pass
pub count_by-set_same : {X : Type 0} (p : X → Bool) (xs : List X) (i : ℕ) (y d : X) → i < length xs → p (get_or xs i d) ≡ true → p y ≡ true → count_by p (set xs i y) ≡ count_by p xs
count_by-set_same {X} p xs i y d h passed passes =
    let moved = sum_by-set (λ (x : X). weight (p x)) xs i y d h in
    let before : weight (p (get_or xs i d)) ≡ 1 = ap weight passed in
    let after : weight (p y) ≡ 1 = ap weight passes in
    omega (arith, moved, before, after)

-- if one doesn't pass, fewer pass than there are
pub count_by-lt : {X : Type 0} (p : X → Bool) (xs : List X) (i : ℕ) (y d : X) → i < length xs → p (get_or xs i d) ≡ false → p y ≡ true → count_by p xs < length xs
count_by-lt p xs i y d h fails passes =
    let more = count_by-set_more p xs i y d h fails passes in
    let within = count_by-le-length p (set xs i y) in
    omega (arith, more, within, length-set xs i y)
