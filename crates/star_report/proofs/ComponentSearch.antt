-- The search goes on: a file is found, a load is followed, a frame takes in the one after it.
use Rattle.std.proofs.Common.{arith, ◌≡◌, ◌<◌, ◌≤◌, ◌+◌, ◌++◌, ◌⊎◌, inl, inr, min, ℕ, zero, suc, List, [], ◌∷◌, length, get_or, set, refl, ap, sym, subst, ◌∙◌}
use Rattle.std.proofs.lemmas.Bool.{cases_eq, cases_lt}
use Rattle.std.proofs.lemmas.List.{get_or_append_left, get_or_push, length-set, length_push}
use Rattle.star_cache.specs.State.{Loads}
use Rattle.star_reading.specs.Readings.{Row}
use Rattle.star_report.specs.declared.components.Frame.{Frame}
use Rattle.star_report.specs.declared.components.Mark.{Mark}
use Rattle.star_report.specs.declared.components.Mark.TheVariants.{New, Open, Closed}
use Rattle.star_report.specs.Components.{AreOne, LoadsLead, loaded_at, mark_at}
use Rattle.star_report.specs.Search.{AreFrames, IsFrame, IsKnown, IsSearch, IsSettled, first_frame, left_from, load_of, opened, went_on}
use Rattle.star_report.proofs.ComponentMarks.{closed_stays, closed_was, found_other, left_less, open_stays, other_mark, own_mark, same_leads, settled_stays, then}
use Rattle.star_report.proofs.ComponentFrames.{frame_goes_on, frame_takes_in, frames_stay, taken_in}

module _ (row : Row) (marks : List Mark) (stack : List ℕ) (path : List Frame) (count n : ℕ) (was : IsSearch row marks stack path count) (new : mark_at marks n ≡ New) (inside : n < length marks)
    (led : (i : ℕ) → i < length stack → LoadsLead row (get_or stack i 0) n)
  where
    abbrev place : ℕ
    place = length stack

    abbrev marks_after : List Mark
    marks_after = set marks n (Open place)

    abbrev stack_after : List ℕ
    stack_after = stack ++ n ∷ []

    one_more : length stack_after ≡ place + 1
    one_more = length_push stack n

    old_at : (i : ℕ) → i < place → get_or stack_after i 0 ≡ get_or stack i 0
    old_at i less = get_or_append_left stack (n ∷ []) 0 i less

    new_at : get_or stack_after place 0 ≡ n
    new_at = get_or_push stack n 0 place refl

    last_or_old : (i : ℕ) → i < length stack_after → (i ≡ place) ⊎ (i < place)
    last_or_old i less = elim (cases_eq i place) [
      | inl e ↦ inl e
      | inr ne ↦ inr (let more = one_more in omega (arith, less, ne, more))
    ]

    entered_frame : IsFrame row marks_after stack_after (first_frame n place) (length stack_after)
    entered_frame = record {
      inside = (let more = one_more in omega (arith, more));
      file = new_at;
      low = omega arith;
      back = same_leads row n (get_or stack_after place 0) (sym new_at);
      members = λ i from to. elim (last_or_old i to) [
        | inl e ↦ same_leads row (get_or stack_after i 0) n (ap (λ k. get_or stack_after k 0) e ∙ new_at)
        | inr less ↦ absurd (let no : ⊥ = omega (arith, from, less) in no)
      ];
      own = λ j less there. absurd (let no : ⊥ = omega (arith, less) in no);
      followed = λ i from to m load. absurd (let more = one_more in let no : ⊥ = omega (arith, from, to, more) in no);
    }

    pub entered : IsSearch row marks_after stack_after (first_frame n place ∷ path) count
    entered = record {
      sized = length-set marks n (Open place) ∙ was.sized;
      room = (
          let left = left_less (λ k. 1) marks n 0 place new inside in
          let room = was.room in
          let more = one_more in
          let size = length-set marks n (Open place) in
          omega (arith, left, room, more, size)
          );
      frames = (entered_frame, frames_stay row marks marks_after stack stack_after path place (settled_stays marks n place new inside) old_at was.frames);
      marked = λ m i is. elim (cases_eq m n) [
        | inl e ↦
            let both : Open place ≡ Open i = sym (own_mark marks n place new inside) ∙ (ap (mark_at marks_after) (sym e) ∙ is) in
            let at : place ≡ i = cc in
            (subst (λ k. k < length stack_after) at (let more = one_more in omega (arith, more)), ap (λ k. get_or stack_after k 0) (sym at) ∙ (new_at ∙ sym e))
        | inr ne ↦
            let old = was.marked m i (sym (other_mark marks n place new inside m ne) ∙ is) in
            let less = old.0 in
            (let more = one_more in omega (arith, less, more), old_at i less ∙ old.1)
      ];
      opened = λ i less. elim (last_or_old i less) [
        | inl e ↦ ap (λ k. mark_at marks_after (get_or stack_after k 0)) e ∙ (ap (mark_at marks_after) new_at ∙ (own_mark marks n place new inside ∙ ap Open (sym e)))
        | inr old ↦ ap (mark_at marks_after) (old_at i old) ∙ open_stays marks n place new inside (get_or stack i 0) i (was.opened i old)
      ];
      forward = λ i j le less. elim (last_or_old j less) [
        | inl last ↦ subst (LoadsLead row (get_or stack_after i 0)) (sym (ap (λ k. get_or stack_after k 0) last ∙ new_at)) (elim (last_or_old i (omega (arith, le, less))) [
          | inl e ↦ same_leads row (get_or stack_after i 0) n (ap (λ k. get_or stack_after k 0) e ∙ new_at)
          | inr old ↦ subst (λ k. LoadsLead row k n) (sym (old_at i old)) (led i old)
        ])
        | inr old ↦
            let i_old : i < place = omega (arith, le, old) in
            subst (LoadsLead row (get_or stack_after i 0)) (sym (old_at j old)) (subst (λ k. LoadsLead row k (get_or stack j 0)) (sym (old_at i i_old)) (was.forward i j le old))
      ];
      known = λ m k is. (
          let old = was.known m k (closed_was marks n place new inside m k is) in
          record {
            below = old.below;
            loads = λ l load. (let there = old.loads l load in (there.0, closed_stays marks n place new inside l there.0 there.1, there.2));
          }
          );
      one = λ m l both. was.one m l (both.0, closed_was marks n place new inside m both.0 both.1, closed_was marks n place new inside l both.0 both.2);
    }

-- ---- a load is followed

-- all open files lead to the file of the last frame
pub lead_to_last : (row : Row) (marks : List Mark) (stack : List ℕ) (f : Frame) (fs : List Frame) (count : ℕ) → IsSearch row marks stack (f ∷ fs) count → (i : ℕ) → i < length stack → LoadsLead row (get_or stack i 0) f.file
lead_to_last row marks stack f fs count was i less = elim (cases_lt i f.place) [
  | inl low ↦ subst (LoadsLead row (get_or stack i 0)) was.frames.0.file (was.forward i f.place (omega (arith, low)) was.frames.0.inside)
  | inr high ↦ was.frames.0.members i high less
]

-- a load leads on
pub load_leads : (row : Row) (n j : ℕ) → j < length (loaded_at row n) → LoadsLead row n (get_or (loaded_at row n) j 0)
load_leads row n j less = (1, (get_or (loaded_at row n) j 0, (j, less, default (loaded_at row n) j less), refl))
  where
    default : (xs : List ℕ) (j : ℕ) → j < length xs → get_or xs j (get_or xs j 0) ≡ get_or xs j 0
    default [] j less = absurd (let no : ⊥ = omega (arith, less) in no)
    default (x ∷ xs) zero less = refl
    default (x ∷ xs) (suc j) less = default xs j (omega (arith, less))

-- to a file that was found
pub followed_found : (row : Row) (marks : List Mark) (stack : List ℕ) (f : Frame) (fs : List Frame) (count low : ℕ) → IsSearch row marks stack (f ∷ fs) count → low ≤ f.low → LoadsLead row f.file (get_or stack low 0)
    → IsSettled marks low (load_of row f) → IsSearch row marks stack (went_on f low ∷ fs) count
followed_found row marks stack f fs count low was less back settled = record {
  sized = was.sized;
  room = was.room;
  frames = (frame_goes_on row marks stack f (length stack) low was.frames.0 less back (λ there. settled), was.frames.1);
  marked = was.marked;
  opened = was.opened;
  forward = was.forward;
  known = was.known;
  one = was.one;
}

-- to an open file, at its place
pub followed_open : (row : Row) (marks : List Mark) (stack : List ℕ) (f : Frame) (fs : List Frame) (count i : ℕ) → IsSearch row marks stack (f ∷ fs) count → f.next < length (loaded_at row f.file) → mark_at marks (load_of row f) ≡ Open i
    → IsSearch row marks stack (went_on f (min f.low i) ∷ fs) count
followed_open row marks stack f fs count i was there is =
    let at = was.marked (load_of row f) i is in
    let low : LoadsLead row f.file (get_or stack (min f.low i) 0) = elim (cases_lt i f.low) [
      | inl less ↦ subst (λ k. LoadsLead row f.file (get_or stack k 0)) (let e : i ≡ min f.low i = omega (arith, less) in e) (subst (LoadsLead row f.file) (sym at.1) (load_leads row f.file f.next there))
      | inr more ↦ subst (λ k. LoadsLead row f.file (get_or stack k 0)) (let e : f.low ≡ min f.low i = omega (arith, more) in e) was.frames.0.back
    ] in
    followed_found row marks stack f fs count (min f.low i) was (omega arith) low (opened i is (omega arith))

-- to a new file
pub followed_new : (row : Row) (marks : List Mark) (stack : List ℕ) (f : Frame) (fs : List Frame) (count : ℕ) → IsSearch row marks stack (f ∷ fs) count → f.next < length (loaded_at row f.file) → mark_at marks (load_of row f) ≡ New → load_of row f < length marks
    → IsSearch row (set marks (load_of row f) (Open (length stack))) (stack ++ load_of row f ∷ []) (first_frame (load_of row f) (length stack) ∷ went_on f f.low ∷ fs) count
followed_new row marks stack f fs count was there new inside =
    let n = load_of row f in
    let led : (i : ℕ) → i < length stack → LoadsLead row (get_or stack i 0) n = λ i less. then row (get_or stack i 0) f.file n (lead_to_last row marks stack f fs count was i less) (load_leads row f.file f.next there) in
    let now = entered row marks stack (f ∷ fs) count n was new inside led in
    let f_in = was.frames.0.inside in
    let f_low = was.frames.0.low in
    let settled : IsSettled (set marks n (Open (length stack))) f.low n = opened (length stack) (own_mark marks n (length stack) new inside) (omega (arith, f_in, f_low)) in
    record {
      sized = now.sized;
      room = now.room;
      frames = (now.frames.0, (frame_goes_on row (set marks n (Open (length stack))) (stack ++ n ∷ []) f (length stack) f.low now.frames.1.0 (omega arith) now.frames.1.0.back (λ _. settled), now.frames.1.1));
      marked = now.marked;
      opened = now.opened;
      forward = now.forward;
      known = now.known;
      one = now.one;
    }

-- ---- a frame is taken in by the one before it

pub last_taken_in : (row : Row) (marks : List Mark) (stack : List ℕ) (f g : Frame) (fs : List Frame) (count : ℕ) → IsSearch row marks stack (f ∷ g ∷ fs) count → f.low < f.place → length (loaded_at row f.file) ≤ f.next
    → IsSearch row marks stack (taken_in g f ∷ fs) count
last_taken_in row marks stack f g fs count was lower all = record {
  sized = was.sized;
  room = was.room;
  frames = (frame_takes_in row marks stack f g (length stack) (omega arith) was.forward was.frames.0 was.frames.1.0 lower all, was.frames.1.1);
  marked = was.marked;
  opened = was.opened;
  forward = was.forward;
  known = was.known;
  one = was.one;
}
