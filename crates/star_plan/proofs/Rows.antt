-- Rows with places that may be empty.
use Rattle.std.proofs.Common.{arith, ◌≡◌, ◌<◌, ℕ, zero, suc, List, [], ◌∷◌, length, Option, Some, None, refl, ap, sym, ◌∙◌}
use Rattle.std.specs.Prelude.{slice_get, slice_set}
use Rattle.std.specs.Option.{option_flatten}

same_option : {A : Type 0} (x y : Option A) → ((r : A) → x ≡ Some r → y ≡ Some r) → ((r : A) → y ≡ Some r → x ≡ Some r) → x ≡ y
same_option None None to from = refl
same_option None (Some r) to from = from r refl
same_option (Some r) y to from = sym (to r refl)

-- rows of one length that have the same at each place are the same
pub same_rows : {A : Type 0} (xs ys : List (Option A)) → length xs ≡ length ys → ((n : ℕ) (r : A) → option_flatten (slice_get xs n) ≡ Some r → option_flatten (slice_get ys n) ≡ Some r)
    → ((n : ℕ) (r : A) → option_flatten (slice_get ys n) ≡ Some r → option_flatten (slice_get xs n) ≡ Some r) → xs ≡ ys
same_rows [] [] e to from = refl
same_rows [] (y ∷ ys) e to from = absurd (let no : ⊥ = omega arith in no)
same_rows (x ∷ xs) [] e to from = absurd (let no : ⊥ = omega arith in no)
same_rows (x ∷ xs) (y ∷ ys) e to from =
    let heads : x ≡ y = same_option x y (to 0) (from 0) in
    let rest : xs ≡ ys = same_rows xs ys (omega arith) (λ n. to (suc n)) (λ n. from (suc n)) in
    ap (λ z. z ∷ xs) heads ∙ ap (λ zs. y ∷ zs) rest

-- the element at a place
pub flat_is : {A : Type 0} (o : Option (Option A)) (p : A) → option_flatten o ≡ Some p → o ≡ Some (Some p)
flat_is None p e = absurd (let no : ⊥ = cc in no)
flat_is (Some None) p e = absurd (let no : ⊥ = cc in no)
flat_is (Some (Some q)) p e = ap Some e

-- a row after one place is set
pub get_set_same : {X : Type 0} (xs : List X) (i : ℕ) (x : X) → i < length xs → slice_get (slice_set xs i x) i ≡ Some x
get_set_same [] i x less = absurd (let no : ⊥ = omega (arith, less) in no)
get_set_same (y ∷ ys) zero x less = refl
get_set_same (y ∷ ys) (suc i) x less = get_set_same ys i x (omega (arith, less))

pub get_set_other : {X : Type 0} (xs : List X) (i j : ℕ) (x : X) → (j ≡ i → ⊥) → slice_get (slice_set xs i x) j ≡ slice_get xs j
get_set_other [] i j x other = refl
get_set_other (y ∷ ys) zero zero x other = absurd (other refl)
get_set_other (y ∷ ys) zero (suc j) x other = refl
get_set_other (y ∷ ys) (suc i) zero x other = refl
get_set_other (y ∷ ys) (suc i) (suc j) x other = get_set_other ys i j x (λ e. other (ap suc e))
