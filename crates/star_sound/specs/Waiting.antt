-- The facts while the sound files are sought.
use Rattle.std.specs.Prelude.{◌≡◌, ◌<◌, ◌+◌, ◌⊎◌, ℕ, List, [], ◌∷◌, ◌++◌, Bool, true, false, All, Contains, Some, count_by, length, map, not, slice_get, slice_index_or}
use Rattle.star_sound.specs.Sound.{IsSound, Needs, NeedsAll}
use Rattle.star_sound.specs.declared.sound.Waits.{Waits}

-- a file is known to be sound
abbrev pub IsMarked : List Bool → ℕ → Type 0
IsMarked marks n = slice_index_or marks n false ≡ true

-- how many of a file's first needs are known to be sound
abbrev pub passed_of : List ℕ → ℕ → ℕ
passed_of passed n = slice_index_or passed n 0

-- for each file, the files that wait for it
abbrev pub lists : Waits → List (List ℕ)
lists w = map (λ v. v.items) w.waiting.items

abbrev pub list_of : List (List ℕ) → ℕ → List ℕ
list_of rows m = slice_index_or rows m []

-- there is a place for each of `count` files
pub record AreSized (count : ℕ) (w : Waits) : Type 0 where
  pub sound : length w.sound.items ≡ count
  pub passed : length w.passed.items ≡ count
  pub waiting : length w.waiting.items ≡ count
  pub todo : All (λ n. n < count) w.todo.items

-- nothing is known
pub record AreFresh (w : Waits) : Type 0 where
  pub sound : (n : ℕ) → IsMarked w.sound.items n → ⊥
  pub passed : (n : ℕ) → passed_of w.passed.items n ≡ 0

-- how many files are left: those that are not known to be sound, and sound ones whose waiting files have not gone on
abbrev pub left_in : List Bool → List ℕ → ℕ
left_in marks todo = count_by not marks + length todo

-- one more file is known to be sound. As many files are left as before
pub record IsMarkedMore (n : ℕ) (marks : List Bool) (todo : List ℕ) (after : List Bool) (more : List ℕ) : Type 0 where
  pub size : length after ≡ length marks
  pub here : IsMarked after n
  pub stay : (k : ℕ) → IsMarked marks k → IsMarked after k
  pub fresh : (k : ℕ) → IsMarked after k → IsMarked marks k ⊎ ((k ≡ n) × Contains more k)
  pub kept : (k : ℕ) → Contains todo k → Contains more k
  pub inside : All (λ k. k < length marks) todo → All (λ k. k < length marks) more
  pub left : left_in after more ≡ left_in marks todo

-- a file waits for the first of its needs that is not known to be sound
abbrev pub WaitsFor : List ℕ → List (List ℕ) → ℕ → List ℕ → Type 0
WaitsFor passed rows n ns = (m : ℕ) × (slice_get ns (passed_of passed n) ≡ Some m) × Contains (list_of rows m) n

-- each file that is not barred is known to be sound, or stands aside, or waits. None waits for a file that is known to
-- be sound, unless that file is still in `todo`
pub record AreWaitingBy (needs : Needs) (marks : List Bool) (passed : List ℕ) (rows : List (List ℕ)) (todo aside : List ℕ) : Type 0 where
  pub right : (n : ℕ) → IsMarked marks n → IsSound needs n
  pub before : (n j m : ℕ) (ns : List ℕ) → NeedsAll needs n ns → j < passed_of passed n → slice_get ns j ≡ Some m → IsMarked marks m
  pub placed : (n : ℕ) (ns : List ℕ) → NeedsAll needs n ns → IsMarked marks n ⊎ (Contains aside n ⊎ WaitsFor passed rows n ns)
  pub told : (m : ℕ) → IsMarked marks m → Contains todo m ⊎ (list_of rows m ≡ [])

abbrev pub AreWaiting : Needs → Waits → List ℕ → Type 0
AreWaiting needs w aside = AreWaitingBy needs w.sound.items w.passed.items (lists w) w.todo.items aside

-- a file that needs these stands aside no more
abbrev pub GoesOn : ℕ → List ℕ → Waits → Waits → Type 0
GoesOn n its old new =
    (needs : Needs) (aside : List ℕ) → NeedsAll needs n its → AreWaiting needs old (aside ++ n ∷ [])
    → AreWaiting needs new aside

-- all is known
pub record AreSettled (needs : Needs) (w : Waits) : Type 0 where
  pub sized : AreSized (length needs) w
  pub waiting : AreWaiting needs w []
  pub told : w.todo.items ≡ []
