-- The ends of the files on a way become known.
use Rattle.std.proofs.Common.{arith, ◌≡◌, ◌<◌, ◌≤◌, ◌+◌, ◌⊎◌, inl, inr, ℕ, zero, suc, List, length, replicate, get_or, Option, Some, None, ap, sym, subst, ◌∙◌, length-set}
use Rattle.std.specs.Prelude.{Contains, slice_get, slice_set}
use Rattle.std.proofs.lemmas.Bool.{cases_eq, cases_lt}
use Rattle.std.proofs.lemmas.List.{get_or_default}
use Rattle.star_plan.proofs.Rows.{get_set_other, get_set_same}
use Rattle.star_cause.specs.declared.ends.End.{End}
use Rattle.star_cause.specs.declared.ends.WalkEnd.{WalkEnd}
use Rattle.star_cause.specs.Ends.{AreEnds, AreSettled, Ends, HasEnd, IsKnown, IsWalked, end_on}
use Rattle.star_cause.specs.Ways.{Goes, Nexts}

-- ---- nothing is known

none_there : (count n : ℕ) (e : End) → slice_get (replicate {A = Option End} count None) n ≡ Some (Some e) → ⊥
none_there zero n e is = let no : ⊥ = cc in no
none_there (suc count) zero e is = let no : ⊥ = cc in no
none_there (suc count) (suc n) e is = none_there count n e is

-- ---- one end more

pub settled_more : (before : Ends) (files : List ℕ) (stop : WalkEnd) (i : ℕ) (now : Ends) (x : ℕ) (e : End) → get_or files i 0 ≡ x → end_on files stop i ≡ e → x < length now → AreSettled before files stop i now
    → AreSettled before files stop (i + 1) (slice_set now x (Some e))
settled_more before files stop i now x e place end inside was = record {
  size = length-set now x (Some e) ∙ was.size;
  kept = λ y h. stays y (was.kept y h);
  known = λ j less. known_at j less (cases_lt j i);
  added = λ y f is. added_at y f is (cases_eq y x);
}
  where
    own : slice_get (slice_set now x (Some e)) x ≡ Some (Some e)
    own = get_set_same now x (Some e) inside

    stays_at : (y : ℕ) → IsKnown now y → ((y ≡ x) ⊎ (y ≡ x → ⊥)) → IsKnown (slice_set now x (Some e)) y
    stays_at y h (inl same) = subst (IsKnown (slice_set now x (Some e))) (sym same) (e, own)
    stays_at y h (inr other) = (h.0, get_set_other now x y (Some e) other ∙ h.1)

    stays : (y : ℕ) → IsKnown now y → IsKnown (slice_set now x (Some e)) y
    stays y h = stays_at y h (cases_eq y x)

    known_at : (j : ℕ) → j < i + 1 → ((j < i) ⊎ (i ≤ j)) → IsKnown (slice_set now x (Some e)) (get_or files j 0)
    known_at j less (inl low) = stays (get_or files j 0) (was.known j low)
    known_at j less (inr high) =
        let same : i ≡ j = omega (arith, less, high) in
        subst (λ k. IsKnown (slice_set now x (Some e)) (get_or files k 0)) same (subst (IsKnown (slice_set now x (Some e))) (sym place) (e, own))

    wider : (y : ℕ) (f : End) → ((slice_get before y ≡ Some (Some f)) ⊎ ((k : ℕ) × (k < i) × (get_or files k 0 ≡ y) × (end_on files stop k ≡ f)))
        → (slice_get before y ≡ Some (Some f)) ⊎ ((k : ℕ) × (k < i + 1) × (get_or files k 0 ≡ y) × (end_on files stop k ≡ f))
    wider y f (inl h) = inl h
    wider y f (inr (k, low, at, is)) = inr (k, omega (arith, low), at, is)

    added_at : (y : ℕ) (f : End) → slice_get (slice_set now x (Some e)) y ≡ Some (Some f) → ((y ≡ x) ⊎ (y ≡ x → ⊥))
        → (slice_get before y ≡ Some (Some f)) ⊎ ((k : ℕ) × (k < i + 1) × (get_or files k 0 ≡ y) × (end_on files stop k ≡ f))
    added_at y f is (inl same) =
        let both : Some (Some e) ≡ Some (Some f) = sym own ∙ (ap (slice_get (slice_set now x (Some e))) (sym same) ∙ is) in
        let one : e ≡ f = cc in
        inr (i, omega arith, place ∙ sym same, end ∙ one)
    added_at y f is (inr other) = wider y f (was.added y f (sym (get_set_other now x y (Some e) other) ∙ is))

-- ---- the ends of all files of a way are known

pub learned : (nexts : Nexts) (before after : Ends) (n : ℕ) (files : List ℕ) (stop : WalkEnd) → AreEnds nexts before → IsWalked nexts before n files stop → AreSettled before files stop (length files) after → AreEnds nexts after
learned nexts before after n files stop are walked settled = record {
  size = settled.size ∙ are.size;
  right = λ x e is. right_at x e (settled.added x e is);
  closed = λ x m known goes. closed_at x m goes known.0 (settled.added x known.0 known.1);
}
  where
    right_at : (x : ℕ) (e : End) → ((slice_get before x ≡ Some (Some e)) ⊎ ((i : ℕ) × (i < length files) × (get_or files i 0 ≡ x) × (end_on files stop i ≡ e))) → HasEnd nexts x e
    right_at x e (inl is) = are.right x e is
    right_at x e (inr (i, less, at, end)) = subst (λ f. HasEnd nexts x f) end (subst (λ z. HasEnd nexts z (end_on files stop i)) at (walked.right i less))

    on_it : (m : ℕ) → Contains files m → IsKnown after m
    on_it m (k, less, is) = subst (IsKnown after) (get_or_default files k 0 m less ∙ is) (settled.known k less)

    one_of : (m : ℕ) → (Contains files m ⊎ IsKnown before m) → IsKnown after m
    one_of m (inl h) = on_it m h
    one_of m (inr h) = settled.kept m h

    closed_at : (x m : ℕ) → Goes nexts x m → (e : End) → ((slice_get before x ≡ Some (Some e)) ⊎ ((i : ℕ) × (i < length files) × (get_or files i 0 ≡ x) × (end_on files stop i ≡ e))) → IsKnown after m
    closed_at x m goes e (inl is) = settled.kept m (are.closed x m (e, is) goes)
    closed_at x m goes e (inr (i, less, at, end)) = one_of m (walked.closed x m (i, less, get_or_default files i x 0 less ∙ at) goes)

pub start_known : (before after : Ends) (nexts : Nexts) (n : ℕ) (files : List ℕ) (stop : WalkEnd) → IsWalked nexts before n files stop → AreSettled before files stop (length files) after → IsKnown after n
start_known before after nexts n files stop walked settled =
    let at = walked.starts in
    subst (IsKnown after) (get_or_default files at.0 0 n at.1 ∙ at.2) (settled.known at.0 at.1)
