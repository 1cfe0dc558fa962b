-- Why a file whose loads fail does so.
use Rattle.std.specs.Prelude.{◌≡◌, ◌⊎◌, ℕ, List, [], ◌∷◌, ◌++◌, Some, slice_get}
use Rattle.star_meaning.specs.declared.fault.Fault.{Fault}
use Rattle.star_meaning.specs.declared.said.Said.{Said}
use Rattle.star_meaning.specs.Module.{Stopped}
use Rattle.star_outline.specs.Definitions.{AllDiffer}
use Rattle.star_plan.specs.Plan.{Plan, StaticFault, loaded}
use Rattle.star_plan.specs.Results.{IsOutcome, Static, Unloaded, Ran}

-- the first load of a file that is not good is this one
abbrev pub FailsBy : Plan → ℕ → ℕ → Type 0
FailsBy plan n m = (i : ℕ) × IsOutcome plan n (Unloaded i) × (slice_get (loaded plan n) i ≡ Some m)

-- these files lead from the first one, a file, to another: each to the next, and the last to that other one
abbrev pub LeadBy : (ℕ → ℕ → Type 0) → ℕ → List ℕ → ℕ → Type 0
LeadBy On n [] m = n ≡ m
LeadBy On n (x ∷ xs) m = (n ≡ x) × ((k : ℕ) × On n k × LeadBy On k xs m)

-- .. each fails by the next
abbrev pub Lead : Plan → ℕ → List ℕ → ℕ → Type 0
Lead plan = LeadBy (FailsBy plan)

-- a file with a fault of its own
abbrev pub HasFault : Plan → ℕ → Type 0
HasFault plan n =
    ((f : StaticFault) × IsOutcome plan n (Static f))
    ⊎ ((f : Fault) × (lines : List Said) × IsOutcome plan n (Ran (Stopped f lines)))

-- the cause of a load that is not good: a file with a fault of its own, or a cycle of files
pub data Cause : Type 0 where
  Culprit : ℕ → Cause
  Cycle : List ℕ → Cause

-- files lead from a file to its cause: one at which a way ends, or a cycle, which is listed from its first file that is
-- met. No file occurs twice on the path
abbrev pub IsCauseBy : (ℕ → ℕ → Type 0) → (ℕ → Type 0) → ℕ → Cause → Type 0
IsCauseBy On Ends n (Culprit m) = (way : List ℕ) × LeadBy On n way m × Ends m
IsCauseBy On Ends n (Cycle []) = ⊥
IsCauseBy On Ends n (Cycle (m ∷ ms)) =
    (way : List ℕ) × LeadBy On n way m × LeadBy On m (m ∷ ms) m × AllDiffer (way ++ m ∷ ms)

-- .. first bad loads lead to it, and a way ends at a file with a fault of its own
abbrev pub IsCause : Plan → ℕ → Cause → Type 0
IsCause plan = IsCauseBy (FailsBy plan) (HasFault plan)
