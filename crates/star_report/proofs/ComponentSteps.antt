-- Steps of the search.
use Rattle.std.proofs.Common.{arith, ◌≡◌, ◌<◌, ◌≤◌, ◌+◌, ◌-◌, ◌++◌, min, ℕ, zero, suc, List, [], ◌∷◌, length, get_or, reverse, set, take, refl, ap, sym, subst, ◌∙◌}
use Rattle.std.proofs.lemmas.List.{get_or_default, nil_from_length, reverse-append}
use Rattle.std.specs.Prelude.{Some, None, map, slice_get}
use Rattle.star_scope.specs.declared.loads.Load.{Load}
use Rattle.star_reading.specs.Readings.{LeadWithin, Row, loads_at}
use Rattle.star_report.specs.declared.components.Frame.{Frame}
use Rattle.star_report.specs.declared.components.Mark.{Mark}
use Rattle.star_report.specs.declared.components.Mark.TheVariants.{New, Open, Closed}
use Rattle.star_report.specs.declared.components.Search.{Search}
use Rattle.star_report.specs.Components.{loaded_at, mark_at}
use Rattle.star_report.specs.Search.{Closes, Enters, Goes, IsSearch, IsSearching, IsSearchingAt, Pushes, StayFound, closed, first_frame, frames_left, left_at, left_from, left_of, load_of, went_on}
use Rattle.star_report.proofs.ComponentMarks.{found_stays, left_less, left_stays, own_mark}
use Rattle.star_report.proofs.ComponentFrames.{taken_in}
use Rattle.star_report.proofs.ComponentSearch.{entered, followed_found, followed_new, followed_open, last_taken_in}
use Rattle.star_report.proofs.ComponentCloses.{closed_off, found_after}

pub turned : (fs : List Frame) (f : Frame) → reverse (fs ++ f ∷ []) ≡ f ∷ reverse fs
turned fs f = reverse-append fs (f ∷ [])

abbrev weight : Row → ℕ → ℕ
weight row n = 2 + length (loaded_at row n)

-- a search is at marks, a stack, a path from its last frame on, and a number of components
abbrev IsAt : Search → List Mark → List ℕ → List Frame → ℕ → Type 0
IsAt s marks stack path count = (s.marks.items ≡ marks) × (s.stack.items ≡ stack) × (reverse s.path.items ≡ path) × (s.count ≡ count)

is_at : (row : Row) (new : Search) (marks : List Mark) (stack : List ℕ) (path : List Frame) (count : ℕ) → IsAt new marks stack path count → IsSearch row marks stack path count → IsSearching row new
is_at row new marks stack path count at search =
    subst (λ m. IsSearch row m new.stack.items (reverse new.path.items) new.count) (sym at.0) (subst (λ s. IsSearch row marks s (reverse new.path.items) new.count) (sym at.1) (subst (λ p. IsSearch row marks stack p new.count) (sym at.2) (subst (IsSearch row marks stack path) (sym at.3) search)))

goes_to : (row : Row) (f : Frame) (old new : Search) (marks : List Mark) (stack : List ℕ) (path : List Frame) (count : ℕ) → IsAt new marks stack path count → IsSearch row marks stack path count → left_of row marks path < left_at row f old → StayFound old.marks.items marks → Goes row f old new
goes_to row f old new marks stack path count at search less stay = record {
  search = is_at row new marks stack path count at search;
  less = subst (λ m. left_of row m (reverse new.path.items) < left_at row f old) (sym at.0) (subst (λ p. left_of row marks p < left_at row f old) (sym at.2) less);
  stay = subst (StayFound old.marks.items) (sym at.0) stay;
}

pub goes_pushed : (row : Row) (f : Frame) (old new : Search) (low : ℕ) → Pushes old (went_on f low) new → f.next < length (loaded_at row f.file) → IsSearch row old.marks.items old.stack.items (went_on f low ∷ reverse old.path.items) old.count → Goes row f old new
goes_pushed row f old new low by there search =
    let at : IsAt new old.marks.items old.stack.items (went_on f low ∷ reverse old.path.items) old.count = (ap (λ v. v.items) by.marks, ap (λ v. v.items) by.stack, ap reverse by.path ∙ turned old.path.items (went_on f low), by.count) in
    goes_to row f old new old.marks.items old.stack.items (went_on f low ∷ reverse old.path.items) old.count at search (omega (arith, there)) (λ n is. is)

-- a load that leads to an open file
pub goes_open : (row : Row) (f : Frame) (old new : Search) (i : ℕ) → Pushes old (went_on f (min f.low i)) new → IsSearchingAt row f old → f.next < length (loaded_at row f.file) → mark_at old.marks.items (load_of row f) ≡ Open i → Goes row f old new
goes_open row f old new i by was there is = goes_pushed row f old new (min f.low i) by there (followed_open row old.marks.items old.stack.items f (reverse old.path.items) old.count i was there is)

-- to a closed file
pub goes_closed : (row : Row) (f : Frame) (old new : Search) (k : ℕ) → Pushes old (went_on f f.low) new → IsSearchingAt row f old → f.next < length (loaded_at row f.file) → mark_at old.marks.items (load_of row f) ≡ Closed k → Goes row f old new
goes_closed row f old new k by was there is = goes_pushed row f old new f.low by there (followed_found row old.marks.items old.stack.items f (reverse old.path.items) old.count f.low was (omega arith) was.frames.0.back (closed k is))

-- to a new file
pub goes_new : (row : Row) (f : Frame) (old mid new : Search) → Pushes old (went_on f f.low) mid → Enters mid (load_of row f) new → IsSearchingAt row f old → f.next < length (loaded_at row f.file) → mark_at old.marks.items (load_of row f) ≡ New → load_of row f < length old.marks.items → Goes row f old new
goes_new row f old mid new pushed by was there is inside =
    let n = load_of row f in
    let place = length old.stack.items in
    let marks : mid.marks.items ≡ old.marks.items = ap (λ v. v.items) pushed.marks in
    let stack : mid.stack.items ≡ old.stack.items = ap (λ v. v.items) pushed.stack in
    let path : List Frame = first_frame n place ∷ went_on f f.low ∷ reverse old.path.items in
    let reversed : reverse new.path.items ≡ path =
    ap reverse by.path ∙ (turned mid.path.items (first_frame n (length mid.stack.items)) ∙ (ap (λ s. first_frame n (length s) ∷ reverse mid.path.items) stack ∙ ap (λ p. first_frame n place ∷ p) (ap reverse pushed.path ∙ turned old.path.items (went_on f f.low)))) in
    let at : IsAt new (set old.marks.items n (Open place)) (old.stack.items ++ n ∷ []) path old.count =
    (by.marks ∙ (ap (λ m. set m n (Open (length mid.stack.items))) marks ∙ ap (λ s. set old.marks.items n (Open (length s))) stack), by.stack ∙ ap (λ s. s ++ n ∷ []) stack, reversed, by.count ∙ pushed.count) in
    let fewer : ℕ = left_from (weight row) (set old.marks.items n (Open place)) 0 in
    let many : ℕ = left_from (weight row) old.marks.items 0 in
    let rest : ℕ = frames_left row (reverse old.path.items) in
    let own : ℕ = length (loaded_at row n) in
    let loads : ℕ = length (loaded_at row f.file) in
    let zero_n : 0 + n ≡ n = omega arith in
    let left : fewer + (2 + own) ≡ many = subst (λ k. fewer + weight row k ≡ many) zero_n (left_less (weight row) old.marks.items n 0 place is inside) in
    let less : fewer + (suc (own - 0) + (suc (loads - (f.next + 1)) + rest)) < many + (suc (loads - f.next) + rest) = omega (arith, left, there) in
    goes_to row f old new (set old.marks.items n (Open place)) (old.stack.items ++ n ∷ []) path old.count at
    (followed_new row old.marks.items old.stack.items f (reverse old.path.items) old.count was there is inside) less (found_stays old.marks.items n place is inside)

-- a frame is taken in by the one before it
pub goes_taken_in : (row : Row) (f g : Frame) (old new : Search) (rest : List Frame) → old.path.items ≡ rest ++ g ∷ [] → new.marks ≡ old.marks → new.stack ≡ old.stack → new.path.items ≡ rest ++ taken_in g f ∷ [] → new.count ≡ old.count
    → IsSearchingAt row f old → length (loaded_at row f.file) ≤ f.next → f.low < f.place → Goes row f old new
goes_taken_in row f g old new rest was_path marks stack path count was all lower =
    let before : reverse old.path.items ≡ g ∷ reverse rest = ap reverse was_path ∙ turned rest g in
    let then_search : IsSearch row old.marks.items old.stack.items (f ∷ g ∷ reverse rest) old.count = subst (λ p. IsSearch row old.marks.items old.stack.items (f ∷ p) old.count) before was in
    let at : IsAt new old.marks.items old.stack.items (taken_in g f ∷ reverse rest) old.count = (ap (λ v. v.items) marks, ap (λ v. v.items) stack, ap reverse path ∙ turned rest (taken_in g f), count) in
    let less : left_of row old.marks.items (taken_in g f ∷ reverse rest) < left_of row old.marks.items (f ∷ g ∷ reverse rest) = omega (arith, all) in
    goes_to row f old new old.marks.items old.stack.items (taken_in g f ∷ reverse rest) old.count at (last_taken_in row old.marks.items old.stack.items f g (reverse rest) old.count then_search lower all)
    (subst (λ p. left_of row old.marks.items (taken_in g f ∷ reverse rest) < left_of row old.marks.items (f ∷ p)) (sym before) less) (λ n is. is)

-- there is a frame before it
pub taken_by_none : (row : Row) (f : Frame) (old : Search) → old.path.items ≡ [] → IsSearchingAt row f old → f.low < f.place → ⊥
taken_by_none row f old none was lower =
    let at : IsSearch row old.marks.items old.stack.items (f ∷ []) old.count = subst (λ p. IsSearch row old.marks.items old.stack.items (f ∷ reverse p) old.count) none was in
    let first : f.place ≡ 0 = at.frames.1 in
    let no : ⊥ = omega (arith, first, lower) in
    no

-- the open files from the frame's own file on are a component
pub goes_closed_off : (row : Row) (f : Frame) (old new : Search) → Closes old f.place new → IsSearchingAt row f old → length (loaded_at row f.file) ≤ f.next → (f.low < f.place → ⊥) → Goes row f old new
goes_closed_off row f old new by was all not_lower =
    let low = was.frames.0.low in
    let own : f.low ≡ f.place = (let h = not_lower in omega (arith, low, h)) in
    let fewer = left_stays (weight row) old.marks.items new.marks.items 0 by.marks.size (found_after row old.marks.items new.marks.items old.stack.items f (reverse old.path.items) old.count was own all by.marks) in
    let at : IsAt new new.marks.items (take f.place old.stack.items) (reverse old.path.items) (old.count + 1) = (refl, by.stack, ap (λ v. reverse v.items) by.path, by.count) in
    goes_to row f old new new.marks.items (take f.place old.stack.items) (reverse old.path.items) (old.count + 1) at (closed_off row old.marks.items new.marks.items old.stack.items f (reverse old.path.items) old.count was own all by.marks) (omega (arith, fewer))
    (found_after row old.marks.items new.marks.items old.stack.items f (reverse old.path.items) old.count was own all by.marks)

-- the mark that is read
pub read_mark : (marks : List Mark) (n : ℕ) (d x : Mark) → n < length marks → d ≡ get_or marks n d → d ≡ x → mark_at marks n ≡ x
read_mark marks n d x inside e is = get_or_default marks n New d inside ∙ (sym e ∙ is)

-- the loop begins: only the first file is open, and its frame is the path
pub begun : (row : Row) (n : ℕ) (old new : Search) → IsSearch row old.marks.items [] [] old.count → old.stack.items ≡ [] → old.path.items ≡ [] → mark_at old.marks.items n ≡ New → n < length old.marks.items → Enters old n new
    → IsSearching row new × StayFound old.marks.items new.marks.items × (mark_at new.marks.items n ≡ New → ⊥)
begun row n old new was stack path is inside by =
    let marks : new.marks.items ≡ set old.marks.items n (Open 0) = by.marks ∙ ap (λ s. set old.marks.items n (Open (length s))) stack in
    let at : IsAt new (set old.marks.items n (Open 0)) (n ∷ []) (first_frame n 0 ∷ []) old.count =
    (marks, by.stack ∙ ap (λ s. s ++ n ∷ []) stack, ap reverse by.path ∙ (turned old.path.items (first_frame n (length old.stack.items)) ∙ (ap (λ s. first_frame n (length s) ∷ reverse old.path.items) stack ∙ ap (λ p. first_frame n 0 ∷ reverse p) path)), by.count) in
    let search = entered row old.marks.items [] [] old.count n was is inside (λ i less. absurd (let no : ⊥ = omega (arith, less) in no)) in (
      is_at row new (set old.marks.items n (Open 0)) (n ∷ []) (first_frame n 0 ∷ []) old.count at search,
      subst (StayFound old.marks.items) (sym marks) (found_stays old.marks.items n 0 is inside),
      λ e. (let both : Open 0 ≡ New = sym (own_mark old.marks.items n 0 is inside) ∙ (ap (λ m. mark_at m n) (sym marks) ∙ e) in let no : ⊥ = cc in no),
    )

-- the path ends: nothing is open
pub ended : (row : Row) (new : Search) → IsSearching row new → new.path.items ≡ [] → (new.stack.items ≡ []) × IsSearch row new.marks.items [] [] new.count
ended row new was none =
    let at : IsSearch row new.marks.items new.stack.items [] new.count = subst (λ p. IsSearch row new.marks.items new.stack.items (reverse p) new.count) none was in
    let size : length new.stack.items ≡ 0 = at.frames in
    let nothing : new.stack.items ≡ [] = nil_from_length new.stack.items size in
    (nothing, subst (λ s. IsSearch row new.marks.items s [] new.count) nothing at)

pub popped : (row : Row) (f : Frame) (old : Search) (before : List Frame) → before ≡ old.path.items ++ f ∷ [] → IsSearch row old.marks.items old.stack.items (reverse before) old.count → IsSearchingAt row f old
popped row f old before e was = subst (λ p. IsSearch row old.marks.items old.stack.items p old.count) (ap reverse e ∙ turned old.path.items f) was

-- the load that is next
pub next_load : (xs : List Load) (j : ℕ) (l : Load) → slice_get xs j ≡ Some l → (j < length (map (λ (x : Load). x.file) xs)) × (get_or (map (λ (x : Load). x.file) xs) j 0 ≡ l.file)
next_load [] j l e = absurd (let no : ⊥ = cc in no)
next_load (x ∷ xs) zero l e = (omega arith, ap (λ (y : Load). y.file) (let same : x ≡ l = cc in same))
next_load (x ∷ xs) (suc j) l e = let rest = next_load xs j l e in let less = rest.0 in (omega (arith, less), rest.1)

pub no_next_load : (xs : List Load) (j : ℕ) → slice_get xs j ≡ None → length (map (λ (x : Load). x.file) xs) ≤ j
no_next_load [] j e = omega arith
no_next_load (x ∷ xs) zero e = absurd (let no : ⊥ = cc in no)
no_next_load (x ∷ xs) (suc j) e = let rest = no_next_load xs j e in omega (arith, rest)

pub load_within : (row : Row) (n j : ℕ) (l : Load) → LeadWithin row → j < length (loads_at row n) → l ≡ get_or (loads_at row n) j l → l.file < length row
load_within row n j l within less e = subst (λ (x : Load). x.file < length row) (sym e) (within n j l less)
