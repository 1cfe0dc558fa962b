-- The search for components, step by step.
use Rattle.std.specs.Prelude.{◌≡◌, ◌<◌, ◌≤◌, ◌+◌, ◌-◌, ◌⊎◌, ◌++◌, ℕ, zero, suc, List, [], ◌∷◌, drop, get_or, length, reverse, set, take}
use Rattle.star_cache.specs.State.{Loads}
use Rattle.star_reading.specs.Readings.{Row}
use Rattle.star_report.specs.Components.{AreOne, LoadsLead, loaded_at, mark_at}
use Rattle.star_report.specs.declared.components.Frame.{Frame}
use Rattle.star_report.specs.declared.components.Mark.{Mark}
use Rattle.star_report.specs.declared.components.Mark.TheVariants.{New, Open, Closed}
use Rattle.star_report.specs.declared.components.Search.{Search}

-- a file was found, and is not open below a place
pub data IsSettled (marks : List Mark) (low n : ℕ) : Type 0 where
  opened : (i : ℕ) → mark_at marks n ≡ Open i → low ≤ i → IsSettled marks low n
  closed : (k : ℕ) → mark_at marks n ≡ Closed k → IsSettled marks low n

-- so is all that a file loads
abbrev pub AreSettled : Row → List Mark → ℕ → ℕ → Type 0
AreSettled row marks low n = (m : ℕ) → Loads (loaded_at row) n m → IsSettled marks low m

-- so are the first loads of a file
abbrev pub AreFirstSettled : Row → List Mark → ℕ → ℕ → ℕ → Type 0
AreFirstSettled row marks low n count =
    (j : ℕ) → j < count → j < length (loaded_at row n) → IsSettled marks low (get_or (loaded_at row n) j 0)

-- a frame, and the open files from its own up to an end: they lead to its file, which leads to its lowest place, and no
-- load that was followed is open below that
pub record IsFrame (row : Row) (marks : List Mark) (stack : List ℕ) (f : Frame) (end : ℕ) : Type 0 where
  pub inside : f.place < end
  pub file : get_or stack f.place 0 ≡ f.file
  pub low : f.low ≤ f.place
  pub back : LoadsLead row f.file (get_or stack f.low 0)
  pub members : (i : ℕ) → f.place ≤ i → i < end → LoadsLead row (get_or stack i 0) f.file
  pub own : AreFirstSettled row marks f.low f.file f.next
  pub followed : (i : ℕ) → f.place < i → i < end → AreSettled row marks f.low (get_or stack i 0)

-- frames from the last on, whose files part the open ones
abbrev pub AreFrames : Row → List Mark → List ℕ → List Frame → ℕ → Type 0
AreFrames row marks stack [] end = end ≡ 0
AreFrames row marks stack (f ∷ fs) end = IsFrame row marks stack f end × AreFrames row marks stack fs f.place

-- the files that are not found yet, each with a weight
abbrev pub left_from : (ℕ → ℕ) → List Mark → ℕ → ℕ
left_from weight [] n = 0
left_from weight (New ∷ marks) n = weight n + left_from weight marks (suc n)
left_from weight (Open i ∷ marks) n = left_from weight marks (suc n)
left_from weight (Closed k ∷ marks) n = left_from weight marks (suc n)

-- a file of a component: its loads are of that component or of earlier ones
pub record IsKnown (row : Row) (marks : List Mark) (count n k : ℕ) : Type 0 where
  pub below : k < count
  pub loads : (m : ℕ) → Loads (loaded_at row) n m → (l : ℕ) × (mark_at marks m ≡ Closed l) × (l ≤ k)

-- the facts during the search: earlier open files lead to later ones, and closed files of one component lead to each
-- other
pub record IsSearch (row : Row) (marks : List Mark) (stack : List ℕ) (path : List Frame) (count : ℕ) : Type 0 where
  pub sized : length marks ≡ length row
  pub room : count + left_from (λ n. 1) marks 0 + length stack ≤ length marks
  pub frames : AreFrames row marks stack path (length stack)
  pub marked : (n i : ℕ) → mark_at marks n ≡ Open i → (i < length stack) × (get_or stack i 0 ≡ n)
  pub opened : (i : ℕ) → i < length stack → mark_at marks (get_or stack i 0) ≡ Open i
  pub forward : (i j : ℕ) → i ≤ j → j < length stack → LoadsLead row (get_or stack i 0) (get_or stack j 0)
  pub known : (n k : ℕ) → mark_at marks n ≡ Closed k → IsKnown row marks count n k
  pub one : (n m : ℕ) → AreOne marks n m → LoadsLead row n m

abbrev pub IsSearching : Row → Search → Type 0
IsSearching row s = IsSearch row s.marks.items s.stack.items (reverse s.path.items) s.count

-- these facts hold while the last frame is off the path
abbrev pub IsSearchingAt : Row → Frame → Search → Type 0
IsSearchingAt row f s = IsSearch row s.marks.items s.stack.items (f ∷ reverse s.path.items) s.count

-- ---- steps

-- these files are marked with a component, and no others are marked anew
pub record IsClosedBy (old new : List Mark) (files : List ℕ) (count : ℕ) : Type 0 where
  pub size : length new ≡ length old
  pub closed : (i : ℕ) → i < length files → get_or files i 0 < length old
      → mark_at new (get_or files i 0) ≡ Closed count
  pub other : (n : ℕ) → (mark_at new n ≡ mark_at old n)
      ⊎ ((i : ℕ) × (i < length files) × (get_or files i 0 ≡ n) × (mark_at new n ≡ Closed count))

-- the frame of a file that is found
abbrev pub first_frame : ℕ → ℕ → Frame
first_frame n place = record { file = n; place = place; next = 0; low = place }

-- a file is found: it is open, and its frame is the last
pub record Enters (old : Search) (n : ℕ) (new : Search) : Type 0 where
  pub marks : new.marks.items ≡ set old.marks.items n (Open (length old.stack.items))
  pub stack : new.stack.items ≡ old.stack.items ++ n ∷ []
  pub path : new.path.items ≡ old.path.items ++ first_frame n (length old.stack.items) ∷ []
  pub count : new.count ≡ old.count

-- a frame after one load more
abbrev pub went_on : Frame → ℕ → Frame
went_on f low = record { file = f.file; place = f.place; next = f.next + 1; low = low }

abbrev pub load_of : Row → Frame → ℕ
load_of row f = get_or (loaded_at row f.file) f.next 0

-- a frame is the last, and nothing else changes
pub record Pushes (old : Search) (f : Frame) (new : Search) : Type 0 where
  pub marks : new.marks ≡ old.marks
  pub stack : new.stack ≡ old.stack
  pub path : new.path.items ≡ old.path.items ++ f ∷ []
  pub count : new.count ≡ old.count

-- the open files from a place on are a component
pub record Closes (old : Search) (place : ℕ) (new : Search) : Type 0 where
  pub marks : IsClosedBy old.marks.items new.marks.items (drop place old.stack.items) old.count
  pub stack : new.stack.items ≡ take place old.stack.items
  pub path : new.path ≡ old.path
  pub count : new.count ≡ old.count + 1

-- ---- how much is left

abbrev pub frames_left : Row → List Frame → ℕ
frames_left row [] = 0
frames_left row (f ∷ fs) = suc (length (loaded_at row f.file) - f.next) + frames_left row fs

abbrev pub left_of : Row → List Mark → List Frame → ℕ
left_of row marks frames = left_from (λ n. 2 + length (loaded_at row n)) marks 0 + frames_left row frames

abbrev pub left_in : Row → Search → ℕ
left_in row s = left_of row s.marks.items (reverse s.path.items)

abbrev pub left_at : Row → Frame → Search → ℕ
left_at row f s = left_of row s.marks.items (f ∷ reverse s.path.items)

-- the files that were found stay found
abbrev pub StayFound : List Mark → List Mark → Type 0
StayFound old new = (n : ℕ) → mark_at new n ≡ New → mark_at old n ≡ New

-- a step of a search whose last frame is off the path
pub record Goes (row : Row) (f : Frame) (old new : Search) : Type 0 where
  pub search : IsSearching row new
  pub less : left_in row new < left_at row f old
  pub stay : StayFound old.marks.items new.marks.items

-- a step that follows the next load of the frame, which is of this file
abbrev pub Follows : Frame → ℕ → Search → Search → Type 0
Follows f to old new =
    (row : Row) → IsSearchingAt row f old → f.next < length (loaded_at row f.file) → load_of row f ≡ to
    → Goes row f old new

-- a step after the last load of the frame, which reaches a lower place
abbrev pub Merges : Frame → Search → Search → Type 0
Merges f old new =
    (row : Row) → IsSearchingAt row f old → length (loaded_at row f.file) ≤ f.next → f.low < f.place
    → Goes row f old new
