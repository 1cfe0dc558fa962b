-- A walk of an acyclic relation below n has fewer than n steps.
use Rattle.std.proofs.Common.{◌≡◌, ◌≢◌, ◌<◌, ◌≤◌, ℕ, zero, suc, List, [], ◌∷◌, length, true, false, eqb, refl, sym, ap, inl, inr, arith}
use Rattle.std.specs.List.{IsDistinct, AllByRecursion, list_any}
use Rattle.std.proofs.lemmas.Map.Steps.{length-le_from_distinct_below}
use Rattle.std.proofs.lemmas.Bool.{or_cases, eqb-true}
use Rattle.std.proofs.lemmas.Bool.Decides.{nat_tests}
use Rattle.star_cache.specs.Walk.{Walk, LeadsTo, IsAcyclic}
use Rattle.star_cache.specs.State.{IsIn, IsSet}
use Rattle.star_cache.proofs.Walks.{Walk-returns}

-- the steps of a walk, its start first
abbrev pub nodes : (R : ℕ → ℕ → Type 0) (k x y : ℕ) → Walk R k x y → List ℕ
nodes R zero x y w = x ∷ []
nodes R (suc k) x y w = x ∷ nodes R k w.0 y w.2

length-nodes : (R : ℕ → ℕ → Type 0) (k x y : ℕ) (w : Walk R k x y) → length (nodes R k x y w) ≡ suc k
length-nodes R zero x y w = refl
length-nodes R (suc k) x y w = ap suc (length-nodes R k w.0 y w.2)

IsIn-nodes : (R : ℕ → ℕ → Type 0) (k x y z : ℕ) (w : Walk R k x y) → IsIn z (nodes R k x y w) → LeadsTo R x z
IsIn-nodes R zero x y z w (inl e) = (0, sym e)
IsIn-nodes R zero x y z w (inr h) = absurd h
IsIn-nodes R (suc k) x y z w (inl e) = (0, sym e)
IsIn-nodes R (suc k) x y z w (inr h) = let on : LeadsTo R w.0 z = IsIn-nodes R k w.0 y z w.2 h in (suc on.0, (w.0, w.1, on.1))

IsSet-nodes : (R : ℕ → ℕ → Type 0) → IsAcyclic R → (k x y : ℕ) (w : Walk R k x y) → IsSet (nodes R k x y w)
IsSet-nodes R acyclic zero x y w = (λ h. h, tt)
IsSet-nodes R acyclic (suc k) x y w =
    (λ h. Walk-returns R (acyclic x).0 x w.0 w.1 (IsIn-nodes R k w.0 y x w.2 h) (acyclic x).1, IsSet-nodes R acyclic k w.0 y w.2)

below-nodes : (R : ℕ → ℕ → Type 0) (n : ℕ) → ((x y : ℕ) → R x y → x < n) → (k x y : ℕ) (w : Walk R k x y) → y < n → (z : ℕ) → IsIn z (nodes R k x y w) → z < n
below-nodes R n low zero x y w h z (inl e) = omega (arith, w, e)
below-nodes R n low zero x y w h z (inr i) = absurd i
below-nodes R n low (suc k) x y w h z (inl e) = let l : x < n = low x w.0 w.1 in omega (arith, e)
below-nodes R n low (suc k) x y w h z (inr i) = below-nodes R n low k w.0 y w.2 h z i

AllByRecursion-apart : (x : ℕ) (xs : List ℕ) → (IsIn x xs → ⊥) → AllByRecursion (λ y. eqb x y ≡ false) xs
AllByRecursion-apart x [] away = tt
AllByRecursion-apart x (y ∷ ys) away =
    (let ne : x ≢ y = λ e. away (inl e) in grind (arith, nat_tests), AllByRecursion-apart x ys (λ h. away (inr h)))

pub IsDistinct-from_set : (xs : List ℕ) → IsSet xs → IsDistinct eqb xs
unfolding IsDistinct
IsDistinct-from_set [] h = tt
IsDistinct-from_set (x ∷ xs) h = (AllByRecursion-apart x xs h.0, IsDistinct-from_set xs h.1)

pub IsIn-from_any : (q : ℕ) (xs : List ℕ) → list_any (eqb q) xs ≡ true → IsIn q xs
IsIn-from_any q [] h = absurd (cc)
IsIn-from_any q (x ∷ xs) h = elim (or_cases (eqb q x) (list_any (eqb q) xs) h) [ inl e ↦ inl (eqb-true q x e) | inr t ↦ inr (IsIn-from_any q xs t) ]

-- numbers below n that differ are at most n
pub length-set_below : (xs : List ℕ) (n : ℕ) → IsSet xs → ((z : ℕ) → IsIn z xs → z < n) → length xs ≤ n
length-set_below xs n s low = length-le_from_distinct_below xs n (IsDistinct-from_set xs s) (λ q h. low q (IsIn-from_any q xs h))

pub Walk-bounded : (R : ℕ → ℕ → Type 0) (n : ℕ) → IsAcyclic R → ((x y : ℕ) → R x y → x < n) → (x y : ℕ) → Walk R n x y → y < n → ⊥
Walk-bounded R n acyclic low x y w h =
    let bound = length-set_below (nodes R n x y w) n (IsSet-nodes R acyclic n x y w) (below-nodes R n low n x y w h) in
    let size = length-nodes R n x y w in
    omega (arith, bound, size)
