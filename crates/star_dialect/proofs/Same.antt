-- Rows that begin alike.
use Rattle.std.proofs.Common.{◌≡◌, ℕ, ◌+◌, ◌<◌, List, [], ◌∷◌, ◌++◌, length, take, ap, sym, ◌∙◌}
use Rattle.std.proofs.lemmas.List.{take_more}
use Rattle.std.specs.Prelude.{slice_index_or}

-- two rows that begin alike, and have the same text next
pub one_more : (xs ys : List (List ℕ)) (n : ℕ) (a b : List ℕ) → n < length xs → n < length ys → a ≡ slice_index_or xs n a → b ≡ slice_index_or ys n b → a ≡ b
    → take n xs ≡ take n ys → take (n + 1) xs ≡ take (n + 1) ys
one_more xs ys n a b low room is are same begin =
    take_more xs n a low ∙ ap (λ x. take n xs ++ x ∷ []) (sym is)
    ∙ ap (λ ts. ts ++ a ∷ []) begin
    ∙ ap (λ t. take n ys ++ t ∷ []) same
    ∙ ap (λ x. take n ys ++ x ∷ []) are
    ∙ sym (take_more ys n b room)
