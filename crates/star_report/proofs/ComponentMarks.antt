-- Marks of files, and the number of files left.
use Rattle.std.proofs.Common.{arith, ◌≡◌, ◌≢◌, ◌<◌, ◌≤◌, ◌+◌, ◌⊎◌, inl, inr, ℕ, zero, suc, List, [], ◌∷◌, length, get_or, set, replicate, refl, ap, sym, subst, ◌∙◌}
use Rattle.std.proofs.lemmas.Bool.{cases_eq, cases_lt}
use Rattle.std.proofs.lemmas.List.{get_or-set_other, get_or-set_same, get_or_past, length-set}
use Rattle.star_cache.specs.Walk.{LeadsTo}
use Rattle.star_cache.specs.State.{Loads}
use Rattle.star_reading.specs.Readings.{Row}
use Rattle.star_report.specs.declared.components.Mark.{Mark}
use Rattle.star_report.specs.declared.components.Mark.TheVariants.{New, Open, Closed}
use Rattle.star_report.specs.Components.{LoadsLead, loaded_at, mark_at}
use Rattle.star_report.specs.Search.{IsSettled, StayFound, closed, left_from, opened}
use Rattle.star_cache.proofs.Walks.{LeadsTo-join}

pub then : (row : Row) (n m k : ℕ) → LoadsLead row n m → LoadsLead row m k → LoadsLead row n k
then row n m k a b = LeadsTo-join (Loads (loaded_at row)) a.0 n m k a.1 b

pub same_leads : (row : Row) (n m : ℕ) → n ≡ m → LoadsLead row n m
same_leads row n m e = (0, e)

pub settled_more : (marks : List Mark) (low less n : ℕ) → less ≤ low → IsSettled marks low n → IsSettled marks less n
settled_more marks low less n le (opened i is above) = opened i is (omega (arith, le, above))
settled_more marks low less n le (closed k is) = closed k is

-- ---- a file that is found

module _ (marks : List Mark) (n place : ℕ) (new : mark_at marks n ≡ New) (inside : n < length marks) where
  abbrev after : List Mark
  after = set marks n (Open place)

  pub own_mark : mark_at after n ≡ Open place
  own_mark = get_or-set_same marks n (Open place) New inside

  pub other_mark : (m : ℕ) → (m ≡ n → ⊥) → mark_at after m ≡ mark_at marks m
  other_mark m ne = get_or-set_other marks n m (Open place) New ne

  -- a file that was found is not this file
  pub found_other : (m : ℕ) (x : Mark) → mark_at marks m ≡ x → (x ≡ New → ⊥) → m ≡ n → ⊥
  found_other m x is some e = some (sym is ∙ (ap (mark_at marks) e ∙ new))

  pub closed_stays : (m k : ℕ) → mark_at marks m ≡ Closed k → mark_at after m ≡ Closed k
  closed_stays m k is = other_mark m (found_other m (Closed k) is (λ e. (let no : ⊥ = cc in no))) ∙ is

  pub open_stays : (m i : ℕ) → mark_at marks m ≡ Open i → mark_at after m ≡ Open i
  open_stays m i is = other_mark m (found_other m (Open i) is (λ e. (let no : ⊥ = cc in no))) ∙ is

  pub closed_was : (m k : ℕ) → mark_at after m ≡ Closed k → mark_at marks m ≡ Closed k
  closed_was m k is = elim (cases_eq m n) [
    | inl e ↦ absurd (let both : Open place ≡ Closed k = sym own_mark ∙ (ap (mark_at after) (sym e) ∙ is) in let no : ⊥ = cc in no)
    | inr ne ↦ sym (other_mark m ne) ∙ is
  ]

  pub settled_stays : (low m : ℕ) → IsSettled marks low m → IsSettled after low m
  settled_stays low m (opened i is above) = opened i (open_stays m i is) above
  settled_stays low m (closed k is) = closed k (closed_stays m k is)

  pub found_stays : StayFound marks after
  found_stays m is = elim (cases_eq m n) [
    | inl e ↦ ap (mark_at marks) e ∙ new
    | inr ne ↦ sym (other_mark m ne) ∙ is
  ]

-- ---- how many are left

pub left_less : (weight : ℕ → ℕ) (marks : List Mark) (n start place : ℕ) → mark_at marks n ≡ New → n < length marks
    → left_from weight (set marks n (Open place)) start + weight (start + n) ≡ left_from weight marks start
left_less weight [] n start place new less = absurd (let no : ⊥ = omega (arith, less) in no)
left_less weight (New ∷ marks) zero start place new less = let e : start + 0 ≡ start = omega arith in let w = ap weight e in omega (arith, w)
left_less weight (Open i ∷ marks) zero start place new less = absurd (let no : ⊥ = cc in no)
left_less weight (Closed i ∷ marks) zero start place new less = absurd (let no : ⊥ = cc in no)
left_less weight (New ∷ marks) (suc n) start place new less =
    let rest = left_less weight marks n (suc start) place new (omega (arith, less)) in
    let w = ap weight (let e : suc start + n ≡ start + suc n = omega arith in e) in
    omega (arith, rest, w)
left_less weight (Open i ∷ marks) (suc n) start place new less =
    let rest = left_less weight marks n (suc start) place new (omega (arith, less)) in
    let w = ap weight (let e : suc start + n ≡ start + suc n = omega arith in e) in
    omega (arith, rest, w)
left_less weight (Closed i ∷ marks) (suc n) start place new less =
    let rest = left_less weight marks n (suc start) place new (omega (arith, less)) in
    let w = ap weight (let e : suc start + n ≡ start + suc n = omega arith in e) in
    omega (arith, rest, w)

first_weight : (weight : ℕ → ℕ) (x : Mark) (marks : List Mark) (start : ℕ) → left_from weight marks (suc start) ≤ left_from weight (x ∷ marks) start
first_weight weight New marks start = omega arith
first_weight weight (Open i) marks start = omega arith
first_weight weight (Closed i) marks start = omega arith

-- no more is left if the files that were found stay found
pub left_stays : (weight : ℕ → ℕ) (old new : List Mark) (start : ℕ) → length new ≡ length old → StayFound old new → left_from weight new start ≤ left_from weight old start
left_stays weight old [] start size stay = omega arith
left_stays weight [] (y ∷ new) start size stay = absurd (let no : ⊥ = omega (arith, size) in no)
left_stays weight (x ∷ old) (New ∷ new) start size stay =
    let is : x ≡ New = stay 0 refl in
    let rest = left_stays weight old new (suc start) (omega (arith, size)) (λ n. stay (suc n)) in
    subst (λ z. weight start + left_from weight new (suc start) ≤ left_from weight (z ∷ old) start) (sym is) (omega (arith, rest))
left_stays weight (x ∷ old) (Open i ∷ new) start size stay =
    let rest = left_stays weight old new (suc start) (omega (arith, size)) (λ n. stay (suc n)) in
    let first = first_weight weight x old start in
    omega (arith, rest, first)
left_stays weight (x ∷ old) (Closed i ∷ new) start size stay =
    let rest = left_stays weight old new (suc start) (omega (arith, size)) (λ n. stay (suc n)) in
    let first = first_weight weight x old start in
    omega (arith, rest, first)

pub all_left : (count start : ℕ) → left_from (λ n. 1) (replicate count New) start ≡ count
all_left zero start = refl
all_left (suc count) start = let rest = all_left count (suc start) in omega (arith, rest)
