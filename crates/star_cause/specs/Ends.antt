-- The ends of paths: known for some files while they are looked for, and in the end for all.
use Rattle.std.specs.Prelude.{◌≡◌, ◌<◌, ◌-◌, ◌⊎◌, ℕ, List, ◌∷◌, length, Option, Some, None, All, Contains, if◌then◌else◌, nat_lt, slice_get, slice_index}
use Rattle.star_plan.specs.Causes.{Culprit, Cycle}
use Rattle.star_cause.specs.declared.ends.End.{End}
use Rattle.star_cause.specs.declared.ends.End.TheVariants.{Last, Around}
use Rattle.star_cause.specs.declared.ends.WalkEnd.{WalkEnd}
use Rattle.star_cause.specs.declared.ends.WalkEnd.TheVariants.{Known, Met}
use Rattle.star_cause.specs.Ways.{EndsIn, Goes, Nexts}

-- each next file is a file
abbrev pub AreWithin : Nexts → Type 0
AreWithin nexts = (n m : ℕ) → Goes nexts n m → m < length nexts

-- the way from a file has this end
abbrev pub HasEnd : Nexts → ℕ → End → Type 0
HasEnd nexts n (Last m) = EndsIn nexts n (Culprit m)
HasEnd nexts n (Around first count) =
    (ms : List ℕ) × (length (first ∷ ms) ≡ count) × EndsIn nexts n (Cycle (first ∷ ms))

-- for each file the end of its way, if it is known
abbrev pub Ends : Type 0
Ends = List (Option End)

abbrev pub IsKnown : Ends → ℕ → Type 0
IsKnown ends n = (e : End) × (slice_get ends n ≡ Some (Some e))

abbrev pub IsFresh : Ends → ℕ → Type 0
IsFresh ends n = slice_get ends n ≡ Some None

-- a known end is right, and if a file's end is known, the end of its next file is known too
pub record AreEnds (nexts : Nexts) (ends : Ends) : Type 0 where
  pub size : length ends ≡ length nexts
  pub right : (n : ℕ) (e : End) → slice_get ends n ≡ Some (Some e) → HasEnd nexts n e
  pub closed : (n m : ℕ) → IsKnown ends n → Goes nexts n m → IsKnown ends m

-- the ends of all files are known, and each next file is one of them
pub record AreAllEnds (nexts : Nexts) (ends : Ends) : Type 0 where
  pub within : AreWithin nexts
  pub are : AreEnds nexts ends
  pub all : (n : ℕ) → n < length nexts → IsKnown ends n

-- for each file on a way its place there is noted
abbrev pub AreNoted : List ℕ → List ℕ → Type 0
AreNoted files places = (k : ℕ) → k < length files → slice_index places (slice_index files k) ≡ k

-- the end of the file at a place of a way that is back at the place p: the cycle from p on, listed from the first of
-- its files that is met
abbrev pub ring_end : List ℕ → ℕ → ℕ → End
ring_end files p i =
    if nat_lt i p then Around (slice_index files p) (length files - p)
    else Around (slice_index files i) (length files - p)

-- .. and of a way that stops for this reason
abbrev pub end_on : List ℕ → WalkEnd → ℕ → End
end_on files (Known e) i = e
end_on files (Met p) i = ring_end files p i

abbrev pub IsPlaceOn : List ℕ → WalkEnd → Type 0
IsPlaceOn files (Known e) = Unit {0}
IsPlaceOn files (Met p) = p < length files

-- a way from a file stops for this reason. The next file of each of its files is on it or is known
pub record IsWalked (nexts : Nexts) (ends : Ends) (n : ℕ) (files : List ℕ) (stop : WalkEnd) : Type 0 where
  pub starts : Contains files n
  pub within : All (λ x. x < length nexts) files
  pub place : IsPlaceOn files stop
  pub right : (i : ℕ) → i < length files → HasEnd nexts (slice_index files i) (end_on files stop i)
  pub closed : (x k : ℕ) → Contains files x → Goes nexts x k → Contains files k ⊎ IsKnown ends k

-- the ends of the first `count` files of a path are known as well
pub record AreSettled (before : Ends) (files : List ℕ) (stop : WalkEnd) (count : ℕ) (after : Ends) : Type 0 where
  pub size : length after ≡ length before
  pub kept : (x : ℕ) → IsKnown before x → IsKnown after x
  pub known : (i : ℕ) → i < count → IsKnown after (slice_index files i)
  pub added : (x : ℕ) (e : End) → slice_get after x ≡ Some (Some e)
      → (slice_get before x ≡ Some (Some e)) ⊎ ((i : ℕ) × (i < count) × (slice_index files i ≡ x)
      × (end_on files stop i ≡ e))
