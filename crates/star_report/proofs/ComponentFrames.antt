-- Frames that stay, go on, and take others in.
use Rattle.std.proofs.Common.{arith, ◌≡◌, ◌<◌, ◌≤◌, ◌+◌, ◌⊎◌, inl, inr, min, ℕ, zero, suc, List, [], ◌∷◌, length, get_or, refl, ap, sym, subst, ◌∙◌}
use Rattle.std.proofs.lemmas.Bool.{cases_eq, cases_lt}
use Rattle.star_cache.specs.State.{Loads}
use Rattle.star_reading.specs.Readings.{Row}
use Rattle.star_report.specs.declared.components.Frame.{Frame}
use Rattle.star_report.specs.declared.components.Mark.{Mark}
use Rattle.star_report.specs.Components.{LoadsLead, loaded_at}
use Rattle.star_report.specs.Search.{AreFirstSettled, AreFrames, AreSettled, IsFrame, IsSettled, went_on}
use Rattle.star_report.proofs.ComponentMarks.{settled_more, then}

-- settled files stay settled
abbrev pub StaySettled : List Mark → List Mark → Type 0
StaySettled old new = (low n : ℕ) → IsSettled old low n → IsSettled new low n

-- two rows of files are the same below an end
abbrev pub SameBelow : List ℕ → List ℕ → ℕ → Type 0
SameBelow old new end = (i : ℕ) → i < end → get_or new i 0 ≡ get_or old i 0

pub frame_stays : (row : Row) (old new : List Mark) (stack grown : List ℕ) (f : Frame) (end : ℕ) → StaySettled old new → SameBelow stack grown end → IsFrame row old stack f end → IsFrame row new grown f end
frame_stays row old new stack grown f end stay same is =
    let inside = is.inside in
    let low = is.low in
    record {
      inside = inside;
      file = same f.place inside ∙ is.file;
      low = low;
      back = subst (LoadsLead row f.file) (sym (same f.low (omega (arith, inside, low)))) is.back;
      members = λ i from to. subst (λ n. LoadsLead row n f.file) (sym (same i to)) (is.members i from to);
      own = λ j less there. stay f.low (get_or (loaded_at row f.file) j 0) (is.own j less there);
      followed = λ i from to m load. stay f.low m (is.followed i from to m (subst (λ n. Loads (loaded_at row) n m) (same i to) load));
    }

pub frames_stay : (row : Row) (old new : List Mark) (stack grown : List ℕ) (fs : List Frame) (end : ℕ) → StaySettled old new → SameBelow stack grown end → AreFrames row old stack fs end → AreFrames row new grown fs end
frames_stay row old new stack grown [] end stay same is = is
frames_stay row old new stack grown (f ∷ fs) end stay same is =
    let inside = is.0.inside in
    (frame_stays row old new stack grown f end stay same is.0, frames_stay row old new stack grown fs f.place stay (λ i less. same i (omega (arith, less, inside))) is.1)

-- ---- one load more was followed

pub frame_goes_on : (row : Row) (marks : List Mark) (stack : List ℕ) (f : Frame) (end low : ℕ) → IsFrame row marks stack f end → low ≤ f.low → LoadsLead row f.file (get_or stack low 0)
    → (f.next < length (loaded_at row f.file) → IsSettled marks low (get_or (loaded_at row f.file) f.next 0)) → IsFrame row marks stack (went_on f low) end
frame_goes_on row marks stack f end low is less back settled =
    let was = is.low in
    record {
      inside = is.inside;
      file = is.file;
      low = omega (arith, less, was);
      back = back;
      members = is.members;
      own = λ j below there. elim (cases_eq j f.next) [
        | inl e ↦ subst (λ k. IsSettled marks low (get_or (loaded_at row f.file) k 0)) (sym e) (settled (subst (λ k. k < length (loaded_at row f.file)) e there))
        | inr ne ↦ settled_more marks f.low low (get_or (loaded_at row f.file) j 0) less (is.own j (omega (arith, below, ne)) there)
      ];
      followed = λ i from to m load. settled_more marks f.low low m less (is.followed i from to m load);
    }

-- ---- a frame takes in the one after it

abbrev pub taken_in : Frame → Frame → Frame
taken_in g f = record { file = g.file; place = g.place; next = g.next; low = min g.low f.low }

pub all_own : (row : Row) (marks : List Mark) (low n count : ℕ) → length (loaded_at row n) ≤ count → AreFirstSettled row marks low n count → AreSettled row marks low n
all_own row marks low n count all own m (j, less, e) =
    subst (IsSettled marks low) (at (loaded_at row n) j m less e) (own j (omega (arith, less, all)) less)
  where
    at : (xs : List ℕ) (j m : ℕ) → j < length xs → get_or xs j m ≡ m → get_or xs j 0 ≡ m
    at [] j m less e = absurd (let no : ⊥ = omega (arith, less) in no)
    at (x ∷ xs) zero m less e = e
    at (x ∷ xs) (suc j) m less e = at xs j m (omega (arith, less)) e

abbrev pub Rising : Row → List ℕ → Type 0
Rising row stack = (i j : ℕ) → i ≤ j → j < length stack → LoadsLead row (get_or stack i 0) (get_or stack j 0)

pub frame_takes_in : (row : Row) (marks : List Mark) (stack : List ℕ) (f g : Frame) (end : ℕ) → end ≤ length stack → Rising row stack → IsFrame row marks stack f end → IsFrame row marks stack g f.place → f.low < f.place
    → length (loaded_at row f.file) ≤ f.next → IsFrame row marks stack (taken_in g f) end
frame_takes_in row marks stack f g end within rising is below lower all =
    let f_in = is.inside in
    let g_in = below.inside in
    let f_low = is.low in
    let g_low = below.low in
    let up : LoadsLead row g.file f.file = subst (λ n. LoadsLead row n f.file) below.file (subst (LoadsLead row (get_or stack g.place 0)) is.file (rising g.place f.place (omega (arith, g_in)) (omega (arith, f_in, within)))) in
    let down : LoadsLead row (get_or stack f.low 0) g.file = elim (cases_lt f.low g.place) [
      | inl low ↦ subst (LoadsLead row (get_or stack f.low 0)) below.file (rising f.low g.place (omega (arith, low)) (omega (arith, g_in, f_in, within)))
      | inr high ↦ below.members f.low high lower
    ] in
    let home : LoadsLead row f.file g.file = then row f.file (get_or stack f.low 0) g.file is.back down in
    let less_g : min g.low f.low ≤ g.low = omega arith in
    let less_f : min g.low f.low ≤ f.low = omega arith in
    record {
      inside = omega (arith, g_in, f_in);
      file = below.file;
      low = omega (arith, g_low);
      back = elim (cases_lt f.low g.low) [
        | inl low ↦ subst (λ k. LoadsLead row g.file (get_or stack k 0)) (let e : f.low ≡ min g.low f.low = omega (arith, low) in e) (then row g.file f.file (get_or stack f.low 0) up is.back)
        | inr high ↦ subst (λ k. LoadsLead row g.file (get_or stack k 0)) (let e : g.low ≡ min g.low f.low = omega (arith, high) in e) below.back
      ];
      members = λ i from to. elim (cases_lt i f.place) [
        | inl low ↦ below.members i from low
        | inr high ↦ then row (get_or stack i 0) f.file g.file (is.members i high to) home
      ];
      own = λ j less there. settled_more marks g.low (min g.low f.low) (get_or (loaded_at row g.file) j 0) less_g (below.own j less there);
      followed = λ i from to m load. elim (cases_lt i f.place) [
        | inl low ↦ settled_more marks g.low (min g.low f.low) m less_g (below.followed i from low m load)
        | inr high ↦ settled_more marks f.low (min g.low f.low) m less_f (elim (cases_eq i f.place) [
          | inl e ↦ all_own row marks f.low f.file f.next all is.own m (subst (λ n. Loads (loaded_at row) n m) (ap (λ k. get_or stack k 0) e ∙ is.file) load)
          | inr ne ↦ is.followed i (omega (arith, high, ne)) to m load
        ])
      ];
    }
