-- Numbers that all differ.
use Rattle.std.proofs.Common.{arith, ◌≡◌, ◌≢◌, ◌<◌, ◌≤◌, ◌⊎◌, inl, inr, ℕ, true, false, List, [], ◌∷◌, ◌++◌, length, eqb, sym, subst, append_assoc, append-nil}
use Rattle.std.specs.Prelude.{All, Contains}
use Rattle.std.specs.List.{AllByRecursion, IsDistinct, list_any}
use Rattle.std.proofs.lemmas.Bool.{eqb-true, or_cases}
use Rattle.std.proofs.lemmas.Bool.Decides.{nat_tests}
use Rattle.std.proofs.lemmas.List.Elements.{All-contains, Contains-append_cases}
use Rattle.std.proofs.lemmas.Map.Steps.{length-le_from_distinct_below}
use Rattle.star_outline.specs.Definitions.{AllDiffer}
use Rattle.star_outline.proofs.Differ.{differ_pushed}
use Rattle.star_plan.proofs.Causes.{here, there}

pub differ_back : (xs ys : List ℕ) → AllDiffer (xs ++ ys) → AllDiffer ys
differ_back [] ys d = d
differ_back (x ∷ xs) ys d = differ_back xs ys d.1

pub differ_joined : (xs ys : List ℕ) → AllDiffer xs → AllDiffer ys → ((z : ℕ) → Contains xs z → Contains ys z → ⊥) → AllDiffer (xs ++ ys)
differ_joined [] ys a b apart = b
differ_joined (x ∷ xs) ys a b apart = (λ h. turn (Contains-append_cases xs ys x h), differ_joined xs ys a.1 b (λ z p q. apart z (there x z xs p) q))
  where
    turn : (Contains xs x ⊎ Contains ys x) → ⊥
    turn (inl h) = a.0 h
    turn (inr h) = apart x (here x xs) h

pub differ_turned : (xs ys : List ℕ) → AllDiffer (xs ++ ys) → AllDiffer (ys ++ xs)
differ_turned [] ys d = subst AllDiffer (sym (append-nil ys)) d
differ_turned (x ∷ xs) ys d =
    let pushed : AllDiffer ((xs ++ ys) ++ x ∷ []) = differ_pushed (xs ++ ys) x d.1 d.0 in
    let inner : AllDiffer (xs ++ (ys ++ x ∷ [])) = subst AllDiffer (append_assoc xs ys (x ∷ [])) pushed in
    subst AllDiffer (append_assoc ys (x ∷ []) xs) (differ_turned xs (ys ++ x ∷ []) inner)

away : (x : ℕ) (xs : List ℕ) → (Contains xs x → ⊥) → AllByRecursion (λ y. eqb x y ≡ false) xs
away x [] off = tt
away x (y ∷ ys) off = (
  let ne : x ≢ y = λ e. off (subst (λ z. Contains (y ∷ ys) z) (sym e) (here y ys)) in grind (arith, nat_tests),
  away x ys (λ h. off (there y x ys h)),
)

distinct : (xs : List ℕ) → AllDiffer xs → IsDistinct eqb xs
unfolding IsDistinct
distinct [] d = tt
distinct (x ∷ xs) d = (away x xs d.0, distinct xs d.1)

in_any : (q : ℕ) (xs : List ℕ) → list_any (eqb q) xs ≡ true → Contains xs q
in_any q [] h = absurd (let no : ⊥ = cc in no)
in_any q (x ∷ xs) h = elim (or_cases (eqb q x) (list_any (eqb q) xs) h) [ inl e ↦ subst (λ z. Contains (x ∷ xs) z) (sym (eqb-true q x e)) (here x xs) | inr t ↦ there x q xs (in_any q xs t) ]

-- numbers below n that differ are at most n
pub differ_short : (xs : List ℕ) (n : ℕ) → AllDiffer xs → All (λ x. x < n) xs → length xs ≤ n
differ_short xs n d low = length-le_from_distinct_below xs n (distinct xs d) (λ q h. All-contains (λ x. x < n) xs q low (in_any q xs h))
