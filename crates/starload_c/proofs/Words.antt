-- One more word of a row in which each word has a property.
use Rattle.std.proofs.Common.{◌≡◌, ◌<◌, ◌+◌, ◌⊎◌, inl, inr, ℕ, List, length, arith, ap, sym, subst, ◌∙◌}
use Rattle.std.specs.Prelude.{slice_index_or}
use Rattle.std.proofs.lemmas.List.{get_or_default}
use Rattle.std.proofs.lemmas.Bool.{cases_order}

pub one_more : {X : Type 0} (P : X → Type 0) (xs : List X) (i : ℕ) (e : X) → i < length xs → ((k : ℕ) (d : X) → k < i → P (slice_index_or xs k d)) → P (slice_index_or xs i e) → (k : ℕ) (d : X) → k < i + 1 → P (slice_index_or xs k d)
one_more P xs i e inside before one k d less = split (cases_order k i)
  where
    split : ((k ≡ i) ⊎ ((k < i) ⊎ (i < k))) → P (slice_index_or xs k d)
    split (inl same) = subst P (get_or_default xs i e d inside ∙ ap (λ j. slice_index_or xs j d) (sym same)) one
    split (inr (inl lower)) = before k d lower
    split (inr (inr higher)) = absurd (omega (arith, less, higher))
