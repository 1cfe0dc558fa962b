-- Rows of ends.
use Rattle.std.proofs.Common.{◌≡◌, ◌≢◌, ◌<◌, ◌⊎◌, inl, inr, ℕ, zero, suc, List, [], ◌∷◌, ◌++◌, length, Option, Some, None, slice_get, refl, ap, sym, subst, ◌∙◌}
use Rattle.std.specs.Prelude.{slice_set}
use Rattle.star_plan.proofs.Rows.{get_set_other, get_set_same}
use Rattle.star_reading.proofs.Finds.{by_cases, same_or_not}
use Rattle.star_outcome.specs.declared.good_end.GoodEnd.{GoodEnd}
use Rattle.star_memo.specs.Lasting.{IsFilled}
use Rattle.star_memo.specs.Outcomes.{AreAmong}

-- one more entry, at the end of a row
pub last_or : {A : Type 0} (xs : List (Option A)) (x : Option A) (k : ℕ) (a : A) → slice_get (xs ++ x ∷ []) k ≡ Some (Some a) → (slice_get xs k ≡ Some (Some a)) ⊎ ((k ≡ length xs) × (x ≡ Some a))
last_or [] x zero a e = inr (refl, let same : x ≡ Some a = cc in same)
last_or [] x (suc k) a e = absurd (let no : ⊥ = cc in no)
last_or (y ∷ xs) x zero a e = inl e
last_or (y ∷ xs) x (suc k) a e = by_cases (last_or xs x k a e) (λ h. inl h) (λ h. inr (ap suc h.0, h.1))

-- an end is put in its place
pub is_filled : (ends : List (Option GoodEnd)) (n : ℕ) (end : Option GoodEnd) → n < length ends → IsFilled n end ends (slice_set ends n end)
is_filled ends n end less k e at = by_cases (same_or_not k n)
    (λ same_place. inr (same_place, let one : Some end ≡ Some (Some e) = sym (get_set_same ends n end less) ∙ subst (λ i. slice_get (slice_set ends n end) i ≡ Some (Some e)) same_place at in let is : end ≡ Some e = cc in is))
    (λ other. inl (sym (get_set_other ends n k end other) ∙ at))

-- an end is taken out
pub is_gone : (ends : List (Option GoodEnd)) (n : ℕ) (e : GoodEnd) → n < length ends → slice_get (slice_set ends n None) n ≢ Some (Some e)
is_gone ends n e less at = let both : Some None ≡ Some (Some e) = sym (get_set_same ends n None less) ∙ at in let no : ⊥ = cc in no

pub are_left : (ends : List (Option GoodEnd)) (n : ℕ) → n < length ends → AreAmong ends (slice_set ends n None)
are_left ends n less k e at = by_cases (same_or_not k n)
    (λ same. absurd (is_gone ends n e less (subst (λ i. slice_get (slice_set ends n None) i ≡ Some (Some e)) same at)))
    (λ other. sym (get_set_other ends n k None other) ∙ at)
