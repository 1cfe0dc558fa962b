-- Names with values, sorted by their bytes.
use Rattle.std.proofs.Common.{◌≡◌, ℕ, Bool, true, false, List, [], ◌∷◌, map, refl, ap, sym, ◌∙◌}
use Rattle.std.specs.Prelude.{if◌then◌else◌}
use Rattle.std.specs.Ordering.{nat_cmp, is_lt, on}
use Rattle.std.specs.Cmp.{IsStrictWeakOrder}
use Rattle.std.specs.Cmp.Lexicographic.{slice_cmp}
use Rattle.std.specs.List.Sorted.{IsSortedByKey, IsStableByKey}
use Rattle.std.proofs.lemmas.Cmp.{nat_list_cmp_total}
use Rattle.std.proofs.lemmas.List.Sorted.{ranks_by}
use denote.Ref.{Bor}
use Rattle.star_meaning.specs.Module.{by_name, put_by_name}
use Rattle.star_module.proofs.Stable.{put, sorted, sorted_is}

-- whether the name of one comes before the name of another
abbrev pub first : {A : Type 0} → Bor (List ℕ) × A → Bor (List ℕ) × A → Bool
first x y = is_lt (slice_cmp nat_cmp x.0.now y.0.now)

-- a name with a value, as it is seen
abbrev pub seen : {A : Type 0} → Bor (List ℕ) × A → List ℕ × A
seen x = (x.0.now, x.1)

put_if : {A : Type 0} (b : Bool) (x y : Bor (List ℕ) × A) (zs ys : List (Bor (List ℕ) × A)) → map seen (if b then y ∷ zs else x ∷ y ∷ ys) ≡ (if b then seen y ∷ map seen zs else seen x ∷ seen y ∷ map seen ys)
put_if true x y zs ys = refl
put_if false x y zs ys = refl

put_seen : {A : Type 0} (x : Bor (List ℕ) × A) (ys : List (Bor (List ℕ) × A)) → map seen (put first x ys) ≡ put_by_name (seen x) (map seen ys)
put_seen x [] = refl
put_seen x (y ∷ ys) = put_if (first y x) x y (put first x ys) ys ∙ ap (λ zs. if first y x then seen y ∷ zs else seen x ∷ seen y ∷ map seen ys) (put_seen x ys)

sorted_seen : {A : Type 0} (xs : List (Bor (List ℕ) × A)) → map seen (sorted first xs) ≡ by_name (map seen xs)
sorted_seen [] = refl
sorted_seen (x ∷ xs) = put_seen x (sorted first xs) ∙ ap (put_by_name (seen x)) (sorted_seen xs)

by_text : {A : Type 0} → IsStrictWeakOrder (first {A = A})
by_text {A} = ranks_by nat_list_cmp_total (λ (x : Bor (List ℕ) × A). x.0.now)

pub sorted_by_name : {A : Type 0} (xs ys : List (Bor (List ℕ) × A)) → IsSortedByKey (λ x. x.0.now) (slice_cmp nat_cmp) ys → IsStableByKey (λ x. x.0.now) (slice_cmp nat_cmp) xs ys → map seen ys ≡ by_name (map seen xs)
sorted_by_name xs ys h s = ap (map seen) (sorted_is first by_text xs ys h s) ∙ sorted_seen xs
