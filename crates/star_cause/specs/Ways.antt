-- Paths over files that each have at most one next file.
use Rattle.std.specs.Prelude.{◌≡◌, ℕ, List, [], ◌∷◌, ◌++◌, length, Option, Some, slice_get}
use Rattle.star_outline.specs.Definitions.{AllDiffer}
use Rattle.star_plan.specs.Causes.{Cause, Culprit, Cycle}

-- for each file its next one, if it has one
abbrev pub Nexts : Type 0
Nexts = List (Option ℕ)

abbrev pub Goes : Nexts → ℕ → ℕ → Type 0
Goes nexts n m = slice_get nexts n ≡ Some (Some m)

-- these files lead from the first one, a file, to another, each to the next
abbrev pub Way : Nexts → ℕ → List ℕ → ℕ → Type 0
Way nexts n [] m = n ≡ m
Way nexts n (x ∷ xs) m = (n ≡ x) × ((k : ℕ) × Goes nexts n k × Way nexts k xs m)

-- the path from a file ends at one that has no next file, or in a cycle, listed from its first file that is met. No
-- file occurs twice on it
abbrev pub EndsIn : Nexts → ℕ → Cause → Type 0
EndsIn nexts n (Culprit m) = (way : List ℕ) × Way nexts n way m × ((k : ℕ) → Goes nexts m k → ⊥)
EndsIn nexts n (Cycle []) = ⊥
EndsIn nexts n (Cycle (m ∷ ms)) =
    (way : List ℕ) × Way nexts n way m × Way nexts m (m ∷ ms) m × AllDiffer (way ++ m ∷ ms)

-- the first files of the path from a file. The number says how many
abbrev pub IsTrail : Nexts → ℕ → ℕ → List ℕ → Type 0
IsTrail nexts n count files = (m : ℕ) × Way nexts n files m × (length files ≡ count)

abbrev pub HasWay : Nexts → ℕ → ℕ → Type 0
HasWay nexts n count = (files : List ℕ) × IsTrail nexts n count files
