-- A module on a shelf stays there when more are put up, and is on each union with that shelf.
use Rattle.std.proofs.Common.{arith, ◌≡◌, ◌+◌, ◌-◌, ◌<◌, ℕ, zero, suc, Bool, true, false, List, [], ◌∷◌, ◌++◌, length, Option, Some, None, refl, ap, sym, subst, ◌∙◌, ◌⊎◌, inl, inr}
use Rattle.std.specs.Prelude.{slice_get, slice_set, replicate, if◌then◌else◌}
use Rattle.std.proofs.lemmas.Bool.{cases_order}
use Rattle.star_store.specs.Store.{Published, Shelf, is_taken, put_up, widened}
use Rattle.star_meaning.specs.Module.{put_place, put_places, union}
use Rattle.star_plan.proofs.Shelves.{set_other}

added : (xs : Shelf) (m k : ℕ) (p : Published) → slice_get xs k ≡ Some (Some p) → slice_get (xs ++ replicate m None) k ≡ Some (Some p)
added [] m k p e = absurd (let no : ⊥ = cc in no)
added (x ∷ xs) m zero p e = e
added (x ∷ xs) m (suc k) p e = added xs m k p e

pub set_at : (xs : Shelf) (h : ℕ) (x : Option Published) → h < length xs → slice_get (slice_set xs h x) h ≡ Some x
set_at [] h x less = absurd (let no : ⊥ = omega arith in no)
set_at (y ∷ ys) zero x less = refl
set_at (y ∷ ys) (suc h) x less = set_at ys h x (omega arith)

pub longer : (xs : Shelf) (m : ℕ) → length (xs ++ replicate m None) ≡ length xs + m
longer [] zero = refl
longer [] (suc m) = omega (arith, longer [] m)
longer (x ∷ xs) m = omega (arith, longer xs m)

pub wide : (h : ℕ) (s : Shelf) → h < length (widened (h + 1) s)
wide h s = omega (arith, longer s ((h + 1) - length s))

pub put_keeps : (b : Bool) (h : ℕ) (q : Published) (s : Shelf) (k : ℕ) (p : Published) → is_taken (slice_get s h) ≡ b → slice_get s k ≡ Some (Some p) → slice_get (if b then s else slice_set (widened (h + 1) s) h (Some q)) k ≡ Some (Some p)
put_keeps true h q s k p free e = e
put_keeps false h q s k p free e = by_order (cases_order k h)
  where
    other : (k ≡ h → ⊥) → slice_get (slice_set (widened (h + 1) s) h (Some q)) k ≡ Some (Some p)
    other apart = set_other (widened (h + 1) s) h k (Some q) apart ∙ added s ((h + 1) - length s) k p e

    by_order : ((k ≡ h) ⊎ ((k < h) ⊎ (h < k))) → slice_get (slice_set (widened (h + 1) s) h (Some q)) k ≡ Some (Some p)
    by_order (inl same) =
        let taken : is_taken (slice_get s h) ≡ true = ap is_taken (subst (λ z. slice_get s z ≡ Some (Some p)) same e) in
        let both : true ≡ false = sym taken ∙ free in
        absurd (let no : ⊥ = cc in no)
    by_order (inr (inl less)) = other (λ same. let no : ⊥ = omega arith in no)
    by_order (inr (inr less)) = other (λ same. let no : ⊥ = omega arith in no)

pub put_up-keeps : (h : ℕ) (q : Published) (s : Shelf) (k : ℕ) (p : Published) → slice_get s k ≡ Some (Some p) → slice_get (put_up h q s) k ≡ Some (Some p)
put_up-keeps h q s k p e = put_keeps (is_taken (slice_get s h)) h q s k p refl e

pub put_up-own : (h : ℕ) (q : Published) (s : Shelf) → is_taken (slice_get s h) ≡ false → slice_get (put_up h q s) h ≡ Some (Some q)
put_up-own h q s free = ap (λ b. slice_get (if b then s else slice_set (widened (h + 1) s) h (Some q)) h) free ∙ set_at (widened (h + 1) s) h (Some q) (wide h s)

pub is_free : (o : Option (Option Published)) → ((p : Published) → o ≡ Some (Some p) → ⊥) → is_taken o ≡ false
is_free None none = refl
is_free (Some None) none = refl
is_free (Some (Some p)) none = absurd (none p refl)

taken_by : (o : Option (Option Published)) → is_taken o ≡ true → (p : Published) × (o ≡ Some (Some p))
taken_by None e = absurd (let no : ⊥ = cc in no)
taken_by (Some None) e = absurd (let no : ⊥ = cc in no)
taken_by (Some (Some p)) e = (p, refl)

put_has : (b : Bool) (h : ℕ) (q : Published) (s : Shelf) → is_taken (slice_get s h) ≡ b → (p : Published) × (slice_get (if b then s else slice_set (widened (h + 1) s) h (Some q)) h ≡ Some (Some p))
put_has true h q s e = taken_by (slice_get s h) e
put_has false h q s e = (q, set_at (widened (h + 1) s) h (Some q) (wide h s))

place_keeps : (i : ℕ) (o : Option Published) (t : Shelf) (k : ℕ) (p : Published) → slice_get t k ≡ Some (Some p) → slice_get (put_place i o t) k ≡ Some (Some p)
place_keeps i None t k p e = e
place_keeps i (Some q) t k p e = put_up-keeps i q t k p e

places_keep : (i : ℕ) (s t : Shelf) (k : ℕ) (p : Published) → slice_get t k ≡ Some (Some p) → slice_get (put_places i s t) k ≡ Some (Some p)
places_keep i [] t k p e = e
places_keep i (o ∷ s) t k p e = places_keep (i + 1) s (put_place i o t) k p (place_keeps i o t k p e)

places_have : (i : ℕ) (s t : Shelf) (j : ℕ) (p : Published) → slice_get s j ≡ Some (Some p) → (q : Published) × (slice_get (put_places i s t) (i + j) ≡ Some (Some q))
places_have i [] t j p e = absurd (let no : ⊥ = cc in no)
places_have i (None ∷ s) t zero p e = absurd (let no : ⊥ = cc in no)
places_have i (Some o ∷ s) t zero p e =
    let here = put_has (is_taken (slice_get t i)) i o t refl in
    let same : i ≡ i + 0 = omega arith in
    (here.0, places_keep (i + 1) s (put_up i o t) (i + 0) here.0 (subst (λ z. slice_get (put_up i o t) z ≡ Some (Some here.0)) same here.1))
places_have i (o ∷ s) t (suc j) p e =
    let rest = places_have (i + 1) s (put_place i o t) j p e in
    let same : (i + 1) + j ≡ i + suc j = omega arith in
    (rest.0, subst (λ z. slice_get (put_places (i + 1) s (put_place i o t)) z ≡ Some (Some rest.0)) same rest.1)

pub union_has : (ss : List Shelf) (i : ℕ) (s : Shelf) (k : ℕ) (p : Published) → slice_get ss i ≡ Some s → slice_get s k ≡ Some (Some p) → (q : Published) × (slice_get (union ss) k ≡ Some (Some q))
union_has [] i s k p e at = absurd (let no : ⊥ = cc in no)
union_has (x ∷ xs) zero s k p e at =
    let same : s ≡ x = cc in
    let here = places_have 0 x (union xs) k p (subst (λ z. slice_get z k ≡ Some (Some p)) same at) in
    let place : 0 + k ≡ k = omega arith in
    (here.0, subst (λ z. slice_get (put_places 0 x (union xs)) z ≡ Some (Some here.0)) place here.1)
union_has (x ∷ xs) (suc i) s k p e at =
    let rest = union_has xs i s k p e at in
    (rest.0, places_keep 0 x (union xs) k rest.0 rest.1)
