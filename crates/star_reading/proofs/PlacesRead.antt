-- The entries of a row of read files.
use Rattle.std.proofs.Common.{◌≡◌, ◌<◌, ◌≢◌, ◌⊎◌, inl, inr, ℕ, zero, suc, List, [], ◌∷◌, ◌++◌, length, get_or, Option, Some, None, refl, ap, sym, ◌∙◌, subst, arith, length-append}
use Rattle.std.specs.Prelude.{All, IsSome, slice_get, slice_set}
use Rattle.std.specs.Option.{option_flatten}
use Rattle.std.proofs.lemmas.Bool.{cases_order}
use Rattle.std.proofs.lemmas.List.{get_or_append_left, get_or-set_other, get_or-set_same, length-set}
use Rattle.std.proofs.lemmas.List.Elements.{All-append}
use Rattle.std.proofs.lemmas.Option.{slice_get-get_or, slice_get_within}
use Rattle.std.proofs.Math.Seq.{get_or-append_seam}
use Rattle.star_label.specs.Files.{File}
use Rattle.star_scope.specs.Resolve.{Outside}
use Rattle.star_reading.specs.declared.reading.Read.{Read}
use Rattle.star_reading.specs.declared.reading.Read.TheVariants as read
use Rattle.star_reading.specs.Readings.{AreReadAs, IsPlaceOf, IsReadAs, Row, read_at}

-- an entry is put in its place
pub set_place : (files : List File) (outside : Outside) (row : Row) (k : ℕ) (o : Option Read) → k < length row → IsPlaceOf files outside k o → AreReadAs files outside row → AreReadAs files outside (slice_set row k o)
set_place files outside row k o inside is all n d h = by_order (cases_order n k)
  where
    short : n < length row
    short = let e = length-set row k o in omega (arith, e, h)

    other : n ≢ k → IsPlaceOf files outside n (get_or (slice_set row k o) n d)
    other ne = subst (IsPlaceOf files outside n) (sym (get_or-set_other row k n o d ne)) (all n d short)

    by_order : ((n ≡ k) ⊎ ((n < k) ⊎ (k < n))) → IsPlaceOf files outside n (get_or (slice_set row k o) n d)
    by_order (inl same) =
        let here : IsPlaceOf files outside k (get_or (slice_set row k o) k d) = subst (IsPlaceOf files outside k) (sym (get_or-set_same row k o d inside)) is in
        subst (λ i. IsPlaceOf files outside i (get_or (slice_set row k o) i d)) (sym same) here
    by_order (inr (inl less)) = other (omega arith)
    by_order (inr (inr less)) = other (omega arith)

-- one more file is read
pub set_read : (files : List File) (outside : Outside) (row : Row) (k : ℕ) (r : Read) → k < length row → IsReadAs files outside k r → AreReadAs files outside row → AreReadAs files outside (slice_set row k (Some r))
set_read files outside row k r inside is all = set_place files outside row k (Some r) inside is all

-- nothing is read
pub none_read : (files : List File) (outside : Outside) (row : Row) → All (λ o. o ≡ None) row → AreReadAs files outside row
none_read files outside row none n d h = subst (IsPlaceOf files outside n) (sym (none n d h)) tt

pub all_front : {X : Type 0} (P : X → Type 0) (xs : List X) (x : X) → All P (xs ++ x ∷ []) → All P xs
all_front P xs x h k d lt = subst P (get_or_append_left xs (x ∷ []) d k lt) (h k d (let e = length-append xs (x ∷ []) in omega (arith, e, lt)))

pub all_last : {X : Type 0} (P : X → Type 0) (xs : List X) (x : X) → All P (xs ++ x ∷ []) → P x
all_last P xs x h = subst P (get_or-append_seam xs x [] x) (h (length xs) x (let e = length-append xs (x ∷ []) in omega (arith, e)))

-- within a row, `read_at` finds the entry at the index
pub place_read : (row : Row) (n : ℕ) (d : Option Read) → n < length row → read_at row n ≡ get_or row n d
place_read row n d h = ap option_flatten (slice_get-get_or row n d h)

pub some_of : {X : Type 0} (o : Option X) → IsSome o → (x : X) × (o ≡ Some x)
some_of (Some x) h = (x, refl)
some_of None h = absurd (let no : ⊥ = cc in no)

-- the number of a read file is below the length of the row
pub read_within : (row : Row) (n : ℕ) → IsSome (read_at row n) → n < length row
read_within row n h = split (slice_get row n) refl
  where
    split : (o : Option (Option Read)) → slice_get row n ≡ o → n < length row
    split (Some x) e = slice_get_within row n x e
    split None e = absurd (let there = some_of (read_at row n) h in let none : read_at row n ≡ None = ap option_flatten e in let both : None ≡ Some there.0 = sym none ∙ there.1 in let no : ⊥ = cc in no)

pub all_push : {X : Type 0} (P : X → Type 0) (xs : List X) (x : X) → All P xs → P x → All P (xs ++ x ∷ [])
all_push P xs x h here = All-append P xs (x ∷ []) h one
  where
    one : All P (x ∷ [])
    one zero d lt = here
    one (suc k) d lt = absurd (omega (arith, lt))
