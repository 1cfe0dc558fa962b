-- Two rows are one by the numbers of their items.
use Rattle.std.proofs.Common.{arith, ◌≡◌, ℕ, suc, List, [], ◌∷◌, map, refl, ap, ◌∙◌}
use Rattle.std.specs.List.{All}

-- rows with the same numbers in order are equal, if the fact of all items makes two items with one number equal
pub same_rows : {T : Type 0} (number : T → ℕ) (P : T → Type 0) → ((x y : T) → number x ≡ number y → P x → P y → x ≡ y)
    → (xs ys : List T) → map number xs ≡ map number ys → All P xs → All P ys → xs ≡ ys
same_rows number P one [] [] e p q = refl
same_rows number P one [] (y ∷ ys) e p q = absurd (let no : ⊥ = cc in no)
same_rows number P one (x ∷ xs) [] e p q = absurd (let no : ⊥ = cc in no)
same_rows number P one (x ∷ xs) (y ∷ ys) e p q =
    let at : number x ≡ number y = cc in
    let rest : map number xs ≡ map number ys = cc in
    ap (λ z. z ∷ xs) (one x y at (p 0 x (omega arith)) (q 0 y (omega arith)))
    ∙ ap (λ zs. y ∷ zs) (same_rows number P one xs ys rest (λ i d less. p (suc i) d (omega (arith, less))) (λ i d less. q (suc i) d (omega (arith, less))))
