-- One step of the search for the end of a string.
use Rattle.std.proofs.Common.{◌≡◌, ℕ, ◌+◌, ◌<◌, ◌≤◌, Bool, true, false, cond, List, [], ◌∷◌, Option, Some, None, length, get_or, drop, take, refl, ap, sym, ◌∙◌}
use Rattle.std.specs.Prelude.{nat_eq}
use Rattle.std.proofs.lemmas.List.{at_drop_more, at_drop_all}
use Rattle.star_shards.specs.Entries.{quote_from}

pub quote_at : (i : ℕ) (xs : List ℕ) → i < length xs → quote_from i (drop i xs) ≡ cond (nat_eq (get_or xs i 0) 34) (Some i) (cond (nat_eq (get_or xs i 0) 92) None (quote_from (i + 1) (drop (i + 1) xs)))
unfolding quote_from
quote_at i xs lt = at_drop_more (quote_from i) xs i 0 lt

pub quote_here : (i : ℕ) (xs : List ℕ) → i < length xs → nat_eq (get_or xs i 0) 34 ≡ true → quote_from i (drop i xs) ≡ Some i
quote_here i xs lt on = quote_at i xs lt ∙ ap (λ t. cond t (Some i) (cond (nat_eq (get_or xs i 0) 92) None (quote_from (i + 1) (drop (i + 1) xs)))) on

pub quote_escaped : (i : ℕ) (xs : List ℕ) → i < length xs → nat_eq (get_or xs i 0) 34 ≡ false → nat_eq (get_or xs i 0) 92 ≡ true → quote_from i (drop i xs) ≡ None
quote_escaped i xs lt off on =
    quote_at i xs lt ∙ ap (λ t. cond t (Some i) (cond (nat_eq (get_or xs i 0) 92) None (quote_from (i + 1) (drop (i + 1) xs)))) off
    ∙ ap (λ t. cond t None (quote_from (i + 1) (drop (i + 1) xs))) on

pub quote_step : (i : ℕ) (xs : List ℕ) → i < length xs → nat_eq (get_or xs i 0) 34 ≡ false → nat_eq (get_or xs i 0) 92 ≡ false → quote_from i (drop i xs) ≡ quote_from (i + 1) (drop (i + 1) xs)
quote_step i xs lt off other =
    quote_at i xs lt ∙ ap (λ t. cond t (Some i) (cond (nat_eq (get_or xs i 0) 92) None (quote_from (i + 1) (drop (i + 1) xs)))) off
    ∙ ap (λ t. cond t None (quote_from (i + 1) (drop (i + 1) xs))) other

pub quote_past : (i : ℕ) (xs : List ℕ) → length xs ≤ i → quote_from i (drop i xs) ≡ None
unfolding quote_from
quote_past i xs le = at_drop_all (quote_from i) xs i le
