-- The one item of an iterator, by two calls.
use Rattle.std.proofs.Common.{◌≡◌, ℕ, List, [], ◌∷◌, Option, Some, None, ap, refl, subst}
use Rattle.std.proofs.lemmas.Iterator.{YieldsList}
use Rattle.star_strings.specs.Characters.{only_char}

module _ {S : Type 0} {steps : S → Option ℕ → S → Type 0} {s : S} where
  -- only the first gives one
  pub one_there : (ys : List ℕ) → YieldsList steps (λ c. c) s ys → (r : Option ℕ) (t : S) → steps s r t → (c : ℕ) → r ≡ Some c → (q : Option ℕ) (u : S) → steps t q u → q ≡ None → Some c ≡ only_char ys
  one_there [] h r t p c e q u k f = absurd (h.runs c t (subst (λ o. steps s o t) e p))
  one_there (y ∷ []) h r t p c e q u k f = let first = h.runs.1 c t (subst (λ o. steps s o t) e p) in ap Some first.0
  one_there (y ∷ z ∷ zs) h r t p c e q u k f = let first = h.runs.1 c t (subst (λ o. steps s o t) e p) in absurd (first.1.0 u (subst (λ o. steps t o u) f k))

  -- both give one
  pub more_there : (ys : List ℕ) → YieldsList steps (λ c. c) s ys → (r : Option ℕ) (t : S) → steps s r t → (c : ℕ) → r ≡ Some c → (q : Option ℕ) (u : S) → steps t q u → (d : ℕ) → q ≡ Some d → None ≡ only_char ys
  more_there [] h r t p c e q u k d f = refl
  more_there (y ∷ []) h r t p c e q u k d f = let first = h.runs.1 c t (subst (λ o. steps s o t) e p) in absurd (first.1 d u (subst (λ o. steps t o u) f k))
  more_there (y ∷ z ∷ zs) h r t p c e q u k d f = refl
