-- Shelves with no place beyond their last module.
use Rattle.std.proofs.Common.{arith, ◌≡◌, ◌+◌, ◌-◌, ◌<◌, ℕ, zero, suc, Bool, true, false, List, [], ◌∷◌, length, Option, Some, None, refl, ap, sym, subst, ◌∙◌, ◌⊎◌, inl, inr}
use Rattle.std.specs.Prelude.{slice_get, slice_set, if◌then◌else◌}
use Rattle.std.specs.Option.{option_flatten}
use Rattle.std.proofs.lemmas.Bool.{cases_order}
use Rattle.std.proofs.lemmas.Option.{slice_get_within}
use Rattle.star_store.specs.Store.{Published, Shelf, is_taken, put_up, widened}
use Rattle.star_meaning.specs.Module.{put_place, put_places, union}
use Rattle.star_plan.specs.Shelves.{IsTight}
use Rattle.star_plan.proofs.Rows.{flat_is, same_rows}
use Rattle.star_plan.proofs.Union.{longer, put_keeps, set_at, wide}

same_length : (xs : Shelf) (h : ℕ) (x : Option Published) → length (slice_set xs h x) ≡ length xs
same_length [] h x = refl
same_length (y ∷ ys) zero x = refl
same_length (y ∷ ys) (suc h) x = ap suc (same_length ys h x)

-- the length of a shelf with one more module
width : (h : ℕ) (q : Published) (s : Shelf) → length (slice_set (widened (h + 1) s) h (Some q)) ≡ length s + ((h + 1) - length s)
width h q s = same_length (widened (h + 1) s) h (Some q) ∙ longer s ((h + 1) - length s)

put_tight : (b : Bool) (h : ℕ) (q : Published) (s : Shelf) → is_taken (slice_get s h) ≡ b → IsTight s → IsTight (if b then s else slice_set (widened (h + 1) s) h (Some q))
put_tight true h q s free tight k e = tight k e
put_tight false h q s free tight k e = by_order (cases_order h (length s))
  where
    sum : length s + ((h + 1) - length s) ≡ k + 1
    sum = sym (width h q s) ∙ e

    at_last : k ≡ h → (p : Published) × (slice_get (slice_set (widened (h + 1) s) h (Some q)) k ≡ Some (Some p))
    at_last same = (q, subst (λ z. slice_get (slice_set (widened (h + 1) s) h (Some q)) z ≡ Some (Some q)) (sym same) (set_at (widened (h + 1) s) h (Some q) (wide h s)))

    by_order : ((h ≡ length s) ⊎ ((h < length s) ⊎ (length s < h))) → (p : Published) × (slice_get (slice_set (widened (h + 1) s) h (Some q)) k ≡ Some (Some p))
    by_order (inl same) = at_last (omega (arith, sum))
    by_order (inr (inl less)) =
        let last = tight k (omega (arith, sum)) in
        (last.0, put_keeps false h q s k last.0 free last.1)
    by_order (inr (inr more)) = at_last (omega (arith, sum))

pub put_up-tight : (s : Shelf) (h : ℕ) (q : Published) → IsTight s → IsTight (put_up h q s)
put_up-tight s h q tight = put_tight (is_taken (slice_get s h)) h q s refl tight

place_tight : (i : ℕ) (o : Option Published) (t : Shelf) → IsTight t → IsTight (put_place i o t)
place_tight i None t tight = tight
place_tight i (Some q) t tight = put_up-tight t i q tight

places_tight : (i : ℕ) (s t : Shelf) → IsTight t → IsTight (put_places i s t)
places_tight i [] t tight = tight
places_tight i (o ∷ s) t tight = places_tight (i + 1) s (put_place i o t) (place_tight i o t tight)

pub union_tight : (ss : List Shelf) → IsTight (union ss)
union_tight [] = λ k e. absurd (let no : ⊥ = omega (arith, e) in no)
union_tight (s ∷ ss) = places_tight 0 s (union ss) (union_tight ss)

-- of two such shelves with the same modules neither is longer
not_longer : (s t : Shelf) → IsTight t → ((k : ℕ) (p : Published) → slice_get t k ≡ Some (Some p) → slice_get s k ≡ Some (Some p)) → length s < length t → ⊥
not_longer s t tight to less =
    let k : ℕ = length t - 1 in
    let short : length t ≡ k + 1 = omega arith in
    let last = tight k short in
    let within : k < length s = slice_get_within s k (Some last.0) (to k last.0 last.1) in
    omega (arith, within, short, less)

pub one_shelf : (s t : Shelf) → IsTight s → IsTight t → ((k : ℕ) (p : Published) → slice_get s k ≡ Some (Some p) → slice_get t k ≡ Some (Some p))
    → ((k : ℕ) (p : Published) → slice_get t k ≡ Some (Some p) → slice_get s k ≡ Some (Some p)) → s ≡ t
one_shelf s t tight_s tight_t to from = same_rows s t (by_order (cases_order (length s) (length t))) (λ k p e. ap option_flatten (to k p (flat_is (slice_get s k) p e))) (λ k p e. ap option_flatten (from k p (flat_is (slice_get t k) p e)))
  where
    by_order : ((length s ≡ length t) ⊎ ((length s < length t) ⊎ (length t < length s))) → length s ≡ length t
    by_order (inl same) = same
    by_order (inr (inl less)) = absurd (not_longer s t tight_t from less)
    by_order (inr (inr more)) = absurd (not_longer t s tight_s to more)
