-- The report of a plan.
use Rattle.std.specs.Prelude.{◌≡◌, ◌↔◌, ℕ, List, map, length, Some, slice_get, Contains}
use Rattle.std.specs.List.{All}
use Rattle.std.specs.List.Sorted.{IsStrictlyIncreasing}
use Rattle.star_scope.specs.declared.loads.Load.{Load}
use Rattle.star_store.specs.declared.values.Value.{Value}
use Rattle.star_store.specs.Store.{Shelf}
use Rattle.star_meaning.specs.declared.fault.Fault.{Fault}
use Rattle.star_meaning.specs.declared.said.Said.{Said}
use Rattle.star_meaning.specs.Module.{Good, Stopped}
use Rattle.star_plan.specs.Plan.{Plan, StaticFault, loads_of}
use Rattle.star_plan.specs.Results.{IsOutcome, Static, Unloaded, Ran}
use Rattle.star_plan.specs.Reached.{IsReached}
use Rattle.star_plan.specs.Causes.{Cause, IsCause}

-- how a module ended, as it is reported: its globals with their texts and what it said, or its fault with that, or
-- its static fault, or the cause and the line of its first load that is not good
pub data Ended : Type 0 where
  WentWell : List (List ℕ × List ℕ) → List Said → Ended
  HadFault : Fault → List Said → Ended
  HadStatic : StaticFault → Ended
  HadLoad : Cause → ℕ → Ended

abbrev pub IsEnded : Plan → ℕ → Ended → Type 0
IsEnded plan n (WentWell texts lines) =
    (shelf : Shelf) × (globals : List (List ℕ × Value)) × IsOutcome plan n (Ran (Good shelf globals texts lines))
IsEnded plan n (HadFault f lines) = IsOutcome plan n (Ran (Stopped f lines))
IsEnded plan n (HadStatic f) = IsOutcome plan n (Static f)
IsEnded plan n (HadLoad cause line) =
    IsCause plan n cause × ((i : ℕ) × (l : Load) × IsOutcome plan n (Unloaded i)
    × (slice_get (loads_of plan n) i ≡ Some l) × (l.line ≡ line))

-- a module of the report: its file, and how it ended
pub record Module : Type 0 where
  pub file : ℕ
  pub ended : Ended

-- the report of a plan: the reached files in order, each as it ended, and how many they are
pub record IsReport (plan : Plan) (begun : ℕ) (modules : List Module) : Type 0 where
  pub begun_are : begun ≡ length modules
  pub in_order : IsStrictlyIncreasing (map (λ m. m.file) modules)
  pub all : (n : ℕ) → IsReached plan n ↔ Contains (map (λ m. m.file) modules) n
  pub each_ended : All (λ m. IsEnded plan m.file m.ended) modules
