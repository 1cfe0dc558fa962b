-- A row several times over, one more at its end, and an empty one.
use Rattle.std.proofs.Common.{◌≡◌, ℕ, zero, suc, ◌+◌, ◌≤◌, List, [], ◌∷◌, ◌++◌, length, refl, ap, sym, ◌∙◌, append_assoc, append-nil, add-one, arith}
use Rattle.star_meaning.specs.Operators.{times}

times_turned : {A : Type 0} (n : ℕ) (xs : List A) → times n xs ++ xs ≡ xs ++ times n xs
times_turned zero xs = sym (append-nil xs)
times_turned (suc n) xs = append_assoc xs (times n xs) xs ∙ ap (λ ys. xs ++ ys) (times_turned n xs)

pub times_more : {A : Type 0} (n : ℕ) (xs : List A) → times (n + 1) xs ≡ times n xs ++ xs
times_more n xs = rw add-one (sym (times_turned n xs))

pub times_nil : {A : Type 0} (n : ℕ) (xs : List A) → length xs ≤ 0 → times n xs ≡ []
times_nil zero xs h = refl
times_nil (suc n) [] h = times_nil n [] h
times_nil (suc n) (x ∷ xs) h = absurd (omega arith)
