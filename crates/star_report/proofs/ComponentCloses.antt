-- The open files from the last frame's place on are a component.
use Rattle.std.proofs.Common.{arith, ◌≡◌, ◌<◌, ◌≤◌, ◌+◌, ◌-◌, ◌++◌, ◌⊎◌, inl, inr, ℕ, zero, suc, List, [], ◌∷◌, drop, length, get_or, take, refl, ap, sym, subst, ◌∙◌}
use Rattle.std.proofs.lemmas.Bool.{cases_eq, cases_lt}
use Rattle.std.proofs.lemmas.List.{get_or-drop, get_or-take, length-drop, length-take-le}
use Rattle.star_cache.specs.State.{Loads}
use Rattle.star_reading.specs.Readings.{Row}
use Rattle.star_report.specs.declared.components.Frame.{Frame}
use Rattle.star_report.specs.declared.components.Mark.{Mark}
use Rattle.star_report.specs.declared.components.Mark.TheVariants.{New, Open, Closed}
use Rattle.star_report.specs.Components.{AreOne, LoadsLead, loaded_at, mark_at}
use Rattle.star_report.specs.Search.{AreFrames, IsClosedBy, IsFrame, IsKnown, IsSearch, IsSettled, StayFound, closed, left_from, opened}
use Rattle.star_report.proofs.ComponentMarks.{left_stays, same_leads, then}
use Rattle.star_report.proofs.ComponentFrames.{all_own, frames_stay}

-- a file does not have two different marks
clash : (marks : List Mark) (n : ℕ) (x y : Mark) → mark_at marks n ≡ x → mark_at marks n ≡ y → (x ≡ y → ⊥) → ⊥
clash marks n x y a b other = other (sym a ∙ b)

open_not_closed : (i k : ℕ) → Open i ≡ Closed k → ⊥
open_not_closed i k e = cc

new_not_closed : (k : ℕ) → New ≡ Closed k → ⊥
new_not_closed k e = cc

same_number : (k l : ℕ) → Closed k ≡ Closed l → k ≡ l
same_number k l e = cc

same_place : (i j : ℕ) → Open i ≡ Open j → i ≡ j
same_place i j e = cc

-- the number of an open file is below the number of marks
pub marked_within : (marks : List Mark) (n i : ℕ) → mark_at marks n ≡ Open i → n < length marks
marked_within [] n i is = absurd (let no : ⊥ = cc in no)
marked_within (x ∷ marks) zero i is = omega arith
marked_within (x ∷ marks) (suc n) i is = let less = marked_within marks n i is in omega (arith, less)

module _ (row : Row) (marks after : List Mark) (stack : List ℕ) (f : Frame) (fs : List Frame) (count : ℕ) (was : IsSearch row marks stack (f ∷ fs) count) (own : f.low ≡ f.place) (all : length (loaded_at row f.file) ≤ f.next)
    (by : IsClosedBy marks after (drop f.place stack) count)
  where
    inside : f.place < length stack
    inside = was.frames.0.inside

    rest_at : (i : ℕ) → get_or (drop f.place stack) i 0 ≡ get_or stack (f.place + i) 0
    rest_at i = get_or-drop f.place stack i 0

    -- each open file from the frame's place on is marked as closed
    closes : (i : ℕ) → f.place ≤ i → i < length stack → mark_at after (get_or stack i 0) ≡ Closed count
    closes i from less =
        let k = i - f.place in
        let at : f.place + k ≡ i = omega (arith, from) in
        let there : get_or (drop f.place stack) k 0 ≡ get_or stack i 0 = rest_at k ∙ ap (λ j. get_or stack j 0) at in
        let size = length-drop f.place stack in
        let within = marked_within marks (get_or stack i 0) i (was.opened i less) in
        subst (λ n. mark_at after n ≡ Closed count) there (by.closed k (omega (arith, from, less, size)) (subst (λ n. n < length marks) (sym there) within))

    -- a file has its old mark, or was open at the frame's place or after it
    turned : (n : ℕ) → (mark_at after n ≡ mark_at marks n) ⊎ ((i : ℕ) × (f.place ≤ i) × (i < length stack) × (get_or stack i 0 ≡ n) × (mark_at after n ≡ Closed count))
    turned n = elim (by.other n) [
      | inl same ↦ inl same
      | inr new ↦ inr (f.place + new.0, omega arith, (let less = new.1 in let size = length-drop f.place stack in omega (arith, less, size)), sym (rest_at new.0) ∙ new.2, new.3)
    ]

    closed_before : (n k : ℕ) → mark_at marks n ≡ Closed k → mark_at after n ≡ Closed k
    closed_before n k is = elim (turned n) [
      | inl same ↦ same ∙ is
      | inr new ↦ absurd (clash marks n (Open new.0) (Closed k) (subst (λ m. mark_at marks m ≡ Open new.0) new.3 (was.opened new.0 new.2)) is (open_not_closed new.0 k))
    ]

    pub found_after : StayFound marks after
    found_after n is = elim (turned n) [
      | inl same ↦ sym same ∙ is
      | inr new ↦ absurd (clash after n New (Closed count) is new.4 (new_not_closed count))
    ]

    settled_after : (low n : ℕ) → IsSettled marks low n → IsSettled after low n
    settled_after low n (closed k is) = closed k (closed_before n k is)
    settled_after low n (opened i is above) = elim (turned n) [
      | inl same ↦ opened i (same ∙ is) above
      | inr new ↦ closed count new.4
    ]

    kept : List ℕ
    kept = take f.place stack

    kept_size : length (take f.place stack) ≡ f.place
    kept_size = length-take-le f.place stack (let less = inside in omega (arith, less))

    kept_at : (i : ℕ) → i < f.place → get_or (take f.place stack) i 0 ≡ get_or stack i 0
    kept_at i less = get_or-take f.place stack i 0 less

    -- a file that was settled from the frame's lowest place on is closed afterwards
    settles : (n : ℕ) → IsSettled marks f.low n → (l : ℕ) × (mark_at after n ≡ Closed l) × (l ≤ count)
    settles n (closed k is) = (k, closed_before n k is, (let less = (was.known n k is).below in omega (arith, less)))
    settles n (opened i is above) =
        let at = was.marked n i is in
        (count, subst (λ m. mark_at after m ≡ Closed count) at.1 (closes i (omega (arith, above, own)) at.0), omega arith)

    -- all loads of the new component are known
    loads_known : (i : ℕ) → f.place ≤ i → i < length stack → (m : ℕ) → Loads (loaded_at row) (get_or stack i 0) m → (l : ℕ) × (mark_at after m ≡ Closed l) × (l ≤ count)
    loads_known i from less m load = elim (cases_eq i f.place) [
      | inl e ↦ settles m (all_own row marks f.low f.file f.next all was.frames.0.own m (subst (λ n. Loads (loaded_at row) n m) (ap (λ k. get_or stack k 0) e ∙ was.frames.0.file) load))
      | inr ne ↦ settles m (was.frames.0.followed i (omega (arith, from, ne)) less m load)
    ]

    -- and each of its files leads to each
    all_lead : (i j : ℕ) → f.place ≤ i → i < length stack → f.place ≤ j → j < length stack → LoadsLead row (get_or stack i 0) (get_or stack j 0)
    all_lead i j from_i i_less from_j j_less =
        then row (get_or stack i 0) f.file (get_or stack j 0) (was.frames.0.members i from_i i_less) (subst (λ n. LoadsLead row n (get_or stack j 0)) was.frames.0.file (was.forward f.place j from_j j_less))

    known_after : (n k : ℕ) → mark_at after n ≡ Closed k → IsKnown row after (count + 1) n k
    known_after n k is = elim (turned n) [
      | inl same ↦
          let old = was.known n k (sym same ∙ is) in
          record {
            below = (let less = old.below in omega (arith, less));
            loads = λ m load. (let there = old.loads m load in (there.0, closed_before m there.0 there.1, there.2));
          }
      | inr new ↦
          let e : k ≡ count = same_number k count (sym is ∙ new.4) in
          record {
            below = omega (arith, e);
            loads = λ m load. (let there = loads_known new.0 new.1 new.2 m (subst (λ x. Loads (loaded_at row) x m) (sym new.3) load) in (there.0, there.1, (let le = there.2 in omega (arith, le, e))));
          }
    ]

    one_after : (n m : ℕ) → AreOne after n m → LoadsLead row n m
    one_after n m (k, a, b) = elim (turned n) [
      | inl same ↦ elim (turned m) [
        | inl also ↦ was.one n m (k, sym same ∙ a, sym also ∙ b)
        | inr new ↦
            let less = (was.known n k (sym same ∙ a)).below in
            let e : k ≡ count = same_number k count (sym b ∙ new.4) in
            absurd (let no : ⊥ = omega (arith, less, e) in no)
      ]
      | inr new ↦ elim (turned m) [
        | inl also ↦
            let less = (was.known m k (sym also ∙ b)).below in
            let e : k ≡ count = same_number k count (sym a ∙ new.4) in
            absurd (let no : ⊥ = omega (arith, less, e) in no)
        | inr newer ↦ subst (LoadsLead row n) newer.3 (subst (λ x. LoadsLead row x (get_or stack newer.0 0)) new.3 (all_lead new.0 newer.0 new.1 new.2 newer.1 newer.2))
      ]
    ]

    pub closed_off : IsSearch row after (take f.place stack) fs (count + 1)
    closed_off = record {
      sized = by.size ∙ was.sized;
      room = (
          let room = was.room in
          let fewer = left_stays (λ k. 1) marks after 0 by.size found_after in
          let less = inside in
          let size = by.size in
          let kept_is = kept_size in
          omega (arith, room, fewer, less, size, kept_is)
          );
      frames = subst (AreFrames row after (take f.place stack) fs) (sym kept_size) (frames_stay row marks after stack (take f.place stack) fs f.place settled_after kept_at was.frames.1);
      marked = λ n i is. elim (turned n) [
        | inl same ↦
            let at = was.marked n i (sym same ∙ is) in
            elim (cases_lt i f.place) [
              | inl low ↦ ((let e = kept_size in omega (arith, low, e)), kept_at i low ∙ at.1)
              | inr high ↦ absurd (clash after n (Open i) (Closed count) is (subst (λ m. mark_at after m ≡ Closed count) at.1 (closes i high at.0)) (open_not_closed i count))
            ]
        | inr new ↦ absurd (clash after n (Open i) (Closed count) is new.4 (open_not_closed i count))
      ];
      opened = λ i less. (
          let low : i < f.place = (let e = kept_size in omega (arith, less, e)) in
          let in_stack : i < length stack = (let inner = inside in omega (arith, low, inner)) in
          let here : mark_at after (get_or stack i 0) ≡ Open i = elim (turned (get_or stack i 0)) [
            | inl same ↦ same ∙ was.opened i in_stack
            | inr new ↦ absurd (
                let e : new.0 ≡ i = same_place new.0 i (sym (was.opened new.0 new.2) ∙ (ap (mark_at marks) new.3 ∙ was.opened i in_stack)) in
                let from = new.1 in
                let no : ⊥ = omega (arith, low, e, from) in
                no
                )
          ] in
          ap (mark_at after) (kept_at i low) ∙ here
          );
      forward = λ i j le less. (
          let low : j < f.place = (let e = kept_size in omega (arith, less, e)) in
          let i_low : i < f.place = omega (arith, le, low) in
          subst (LoadsLead row (get_or (take f.place stack) i 0)) (sym (kept_at j low)) (subst (λ n. LoadsLead row n (get_or stack j 0)) (sym (kept_at i i_low)) (was.forward i j le (let inner = inside in omega (arith, low, inner))))
          );
      known = known_after;
      one = one_after;
    }
