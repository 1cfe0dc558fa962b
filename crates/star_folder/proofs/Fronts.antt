-- The front of a text, by how many bytes it has.
use Rattle.std.proofs.Common.{◌≡◌, ℕ, ◌≤◌, ◌<◌, List, length, take, ap, sym, refl, ◌∙◌, Bool, true, false}
use Rattle.std.proofs.lemmas.Bool.{ltb-false, ltb-true}
use Rattle.std.proofs.lemmas.List.{take_all}
use Rattle.std.specs.Bool.{nat_lt}

-- two fronts are the same where the first is as long as the second, or both are the whole
pub same_front : (m n : ℕ) (xs : List ℕ) → (n < length xs → m ≡ n) → (length xs ≤ n → length xs ≤ m) → take m xs ≡ take n xs
same_front m n xs h k = from (nat_lt n (length xs)) refl
  where
    from : (b : Bool) → nat_lt n (length xs) ≡ b → take m xs ≡ take n xs
    from true e = ap (λ i. take i xs) (h (ltb-true n (length xs) e))
    from false e = let short = ltb-false n (length xs) e in take_all m xs (k short) ∙ sym (take_all n xs short)
