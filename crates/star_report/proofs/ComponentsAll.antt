-- The whole search: where it begins, and that at its end the marks are the components.
use Rattle.std.proofs.Common.{arith, ◌≡◌, ◌<◌, ◌≤◌, ◌+◌, ◌⊎◌, inl, inr, ℕ, zero, suc, List, [], ◌∷◌, length, get_or, replicate, refl, ap, sym, subst, ◌∙◌}
use Rattle.std.proofs.lemmas.Bool.{cases_lt}
use Rattle.std.proofs.lemmas.List.{get_or-replicate, get_or_past, length-replicate}
use Rattle.star_cache.specs.Walk.{Walk}
use Rattle.star_cache.specs.State.{Loads}
use Rattle.star_reading.specs.Readings.{Row}
use Rattle.star_report.specs.declared.components.Mark.{Mark}
use Rattle.star_report.specs.declared.components.Mark.TheVariants.{New, Open, Closed}
use Rattle.star_report.specs.Components.{AreComponents, AreOne, LoadsLead, loaded_at, mark_at}
use Rattle.star_report.specs.Search.{IsSearch, left_from}
use Rattle.star_report.proofs.ComponentMarks.{all_left}

none_marked : (count n : ℕ) → mark_at (replicate count New) n ≡ New
none_marked count n = elim (cases_lt n count) [
  | inl less ↦ get_or-replicate count n New New less
  | inr more ↦ get_or_past (replicate count New) n New (let l = length-replicate count New in omega (arith, l, more))
]

pub begins : (row : Row) → IsSearch row (replicate (length row) New) [] [] 0
begins row = record {
  sized = length-replicate (length row) New;
  room = (let left = all_left (length row) 0 in let size = length-replicate (length row) New in omega (arith, left, size));
  frames = refl;
  marked = λ n i is. absurd (let both : New ≡ Open i = sym (none_marked (length row) n) ∙ is in let no : ⊥ = cc in no);
  opened = λ i less. absurd (let no : ⊥ = omega (arith, less) in no);
  forward = λ i j le less. absurd (let no : ⊥ = omega (arith, less) in no);
  known = λ n k is. absurd (let both : New ≡ Closed k = sym (none_marked (length row) n) ∙ is in let no : ⊥ = cc in no);
  one = λ n m both. absurd (let clash : New ≡ Closed both.0 = sym (none_marked (length row) n) ∙ both.1 in let no : ⊥ = cc in no);
}

module _ (row : Row) (marks : List Mark) (count : ℕ) (is : IsSearch row marks [] [] count) (found : (n : ℕ) → n < length row → mark_at marks n ≡ New → ⊥) where
  number : (n : ℕ) → n < length row → (k : ℕ) × (mark_at marks n ≡ Closed k)
  number n less = turn (mark_at marks n) refl
    where
      turn : (x : Mark) → mark_at marks n ≡ x → (k : ℕ) × (mark_at marks n ≡ Closed k)
      turn New e = absurd (found n less e)
      turn (Open i) e = absurd (let h = (is.marked n i e).0 in let no : ⊥ = omega (arith, h) in no)
      turn (Closed k) e = (k, e)

  -- a walk leads to no later component
  falls : (steps n m k : ℕ) → mark_at marks n ≡ Closed k → Walk (Loads (loaded_at row)) steps n m → (l : ℕ) × (mark_at marks m ≡ Closed l) × (l ≤ k)
  falls zero n m k e w = (k, subst (λ x. mark_at marks x ≡ Closed k) w e, omega arith)
  falls (suc steps) n m k e w =
      let step = (is.known n k e).loads w.0 w.1 in
      let rest = falls steps w.0 m step.0 step.1 w.2 in
      let a = step.2 in
      let b = rest.2 in
      (rest.0, rest.1, omega (arith, a, b))

  same_number : (k l : ℕ) → Closed k ≡ Closed l → k ≡ l
  same_number k l e = cc

  pub are_components : AreComponents row marks
  are_components n m n_less m_less = (to, from)
    where
      to : AreOne marks n m → LoadsLead row n m × LoadsLead row m n
      to one = (is.one n m one, is.one m n (one.0, one.2, one.1))

      from : (LoadsLead row n m × LoadsLead row m n) → AreOne marks n m
      from (there, back) =
          let k = number n n_less in
          let down = falls there.0 n m k.0 k.1 there.1 in
          let up = falls back.0 m n down.0 down.1 back.1 in
          let a = down.2 in
          let b = up.2 in
          let e : up.0 ≡ k.0 = same_number up.0 k.0 (sym up.1 ∙ k.1) in
          let same : down.0 ≡ k.0 = omega (arith, a, b, e) in
          (k.0, k.1, subst (λ x. mark_at marks m ≡ Closed x) same down.1)
