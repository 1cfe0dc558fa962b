-- The items of a row, one after another.
use Rattle.std.proofs.Common.{◌≡◌, ℕ, ◌+◌, ◌<◌, List, ◌∷◌, length, get_or, drop, refl, ap, sym, subst, ◌∙◌, arith}
use Rattle.std.proofs.lemmas.List.{drop_more, get_or_read_under}
use Rattle.star_reading.proofs.Finds.{by_cases, same_or_not}

-- the rest from one place on is the item at that place, and the rest from the next place on
pub next_item : {A : Type 0} (xs : List A) (i : ℕ) (x : A) → i < length xs → x ≡ get_or xs i x → drop i xs ≡ x ∷ drop (i + 1) xs
next_item xs i x less is = drop_more xs i x less ∙ ap (λ y. y ∷ drop (i + 1) xs) (sym is)

-- a fact of the items before a place and of the one there
pub one_place_more : {A : Type 0} (P : A → Type 0) (xs : List A) (i : ℕ) (x : A) → i < length xs → x ≡ get_or xs i x → P x → ((k : ℕ) (d : A) → k < i → P (get_or xs k d)) → (k : ℕ) (d : A) → k < i + 1 → P (get_or xs k d)
one_place_more P xs i x less is here front k d within = by_cases (same_or_not k i)
    (λ e. subst (λ j. P (get_or xs j d)) (sym e) (subst P (get_or_read_under xs i (length xs) x d is less refl) here))
    (λ ne. front k d (omega (arith, within, ne)))
