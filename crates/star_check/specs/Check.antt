-- The verdicts on the files of a plan before any of them runs.
use Rattle.std.specs.Prelude.{◌≡◌, ◌↔◌, ℕ, List, Option, Some, None, Contains, map, slice_get}
use Rattle.std.specs.List.{All}
use Rattle.std.specs.List.Sorted.{IsStrictlyIncreasing}
use Rattle.star_scope.specs.declared.loads.Load.{Load}
use Rattle.star_plan.specs.Causes.{Cause, IsCauseBy, LeadBy}
use Rattle.star_plan.specs.Plan.{Faulty, Plan, Reading, Sound, StaticFault, loaded, loads_of, read_of}
use Rattle.star_plan.specs.Reached.{IsReached}
use Rattle.star_plan.specs.Results.{IsGood}
use Rattle.star_sound.specs.Sound as sound
use Rattle.star_sound.specs.Sound.{Needs}

-- a file needs the files that it loads. A file with a static fault is barred
abbrev pub needs_in : Option Reading → Option (List ℕ)
needs_in None = None
needs_in (Some (Faulty f)) = None
needs_in (Some (Sound ss loads)) = Some (map (λ l. l.file) loads)

abbrev pub needs : Plan → Needs
needs plan = map needs_in plan.reads

-- a file is sound: it has no static fault, and all that it loads is sound
abbrev pub IsSound : Plan → ℕ → Type 0
IsSound plan n = sound.IsSound (needs plan) n

-- the first load of a file that is not sound is at place i
abbrev pub IsFirstLack : Plan → ℕ → ℕ → Type 0
IsFirstLack plan n i = (ns : List ℕ) × sound.NeedsAll (needs plan) n ns × sound.IsFirstLack (needs plan) ns i

-- the first load of a file that is not sound is this one
abbrev pub FailsBy : Plan → ℕ → ℕ → Type 0
FailsBy plan n m = (i : ℕ) × IsFirstLack plan n i × (slice_get (loaded plan n) i ≡ Some m)

-- these files lead from the first one, a file, to another: each fails by the next, and the last by that other one
abbrev pub Lead : Plan → ℕ → List ℕ → ℕ → Type 0
Lead plan = LeadBy (FailsBy plan)

-- a file with a static fault
abbrev pub IsBarred : Plan → ℕ → Type 0
IsBarred plan n = (f : StaticFault) × (read_of plan n ≡ Some (Faulty f))

-- first loads that are not sound lead from a file to its cause: a file with a static fault, or a cycle of loads, listed
-- from its first file that is met. No file occurs twice on the path
abbrev pub IsCause : Plan → ℕ → Cause → Type 0
IsCause plan = IsCauseBy (FailsBy plan) (IsBarred plan)

-- the verdict on a file: its static fault, or the cause and the line of its first load that is not sound, or that
-- nothing is known against it
pub data Verdict : Type 0 where
  AtFault : StaticFault → Verdict
  Fails : Cause → ℕ → Verdict
  Unrun : Verdict

abbrev pub IsVerdict : Plan → ℕ → Verdict → Type 0
IsVerdict plan n (AtFault f) = read_of plan n ≡ Some (Faulty f)
IsVerdict plan n (Fails cause line) =
    IsCause plan n cause
    × ((i : ℕ) × (l : Load) × IsFirstLack plan n i × (slice_get (loads_of plan n) i ≡ Some l) × (l.line ≡ line))
IsVerdict plan n Unrun = IsSound plan n

-- a file and its verdict
pub record Module : Type 0 where
  pub file : ℕ
  pub verdict : Verdict

-- the check of a plan: the reached files in order, each with its verdict
pub record IsCheck (plan : Plan) (modules : List Module) : Type 0 where
  pub in_order : IsStrictlyIncreasing (map (λ m. m.file) modules)
  pub all : (n : ℕ) → IsReached plan n ↔ Contains (map (λ m. m.file) modules) n
  pub each : All (λ m. IsVerdict plan m.file m.verdict) modules

-- a file that is good, by some run, is sound: a file that is not sound never becomes ok
abbrev pub GoodIsSound : Type 0
GoodIsSound = (plan : Plan) (n : ℕ) → IsGood plan n → IsSound plan n
