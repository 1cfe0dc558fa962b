-- The verdicts of the code, as the definitions have them.
use Rattle.std.specs.Prelude.{◌≡◌, ◌<◌, ◌+◌, ℕ, Bool, List, Some, filter, map, length, slice_get}
use Rattle.std.specs.List.{All}
use Rattle.serde_json.specs.Data.{Data}
use Rattle.star_label.specs.Files.{File}
use Rattle.star_scope.specs.declared.loads.Load.{Load}
use Rattle.star_cause.specs.Causes.{IsBelow, cause_of}
use Rattle.star_cause.specs.Ways.{Goes, Nexts}
use Rattle.star_plan.specs.Plan.{Plan, loads_of}
use Rattle.star_plan.specs.Reached.{IsReached}
use Rattle.star_plan.specs.Reading.{IsPlanOf}
use Rattle.star_reading.specs.Codes.{fault_of}
use Rattle.star_reading.specs.Listed.{AreListed}
use Rattle.star_reading.specs.Readings.{InReadPlans, Row, read_at, readings}
use Rattle.star_reading.specs.declared.reading.Read.{Read}
use Rattle.star_sound.specs.Sound.{IsProspect}
use Rattle.star_sound.specs.declared.sound.Prospect.{Prospect}
use Rattle.star_sound.specs.declared.sound.Prospect.TheVariants.{Lacks}
use Rattle.star_check.specs.Check as check
use Rattle.star_check.specs.Check.{FailsBy, IsFirstLack, IsVerdict, needs}
use Rattle.star_check.specs.Text.{IsCheckAnswer, IsCheckText, shown_data}
use Rattle.star_check.specs.declared.verdict.Judged.{Judged}
use Rattle.star_check.specs.declared.verdict.Verdict.{Verdict}
use Rattle.star_check.specs.declared.verdict.Verdict.TheVariants.{AtFault, Fails, Unrun}

abbrev pub verdict_view : Verdict → check.Verdict
verdict_view (AtFault f) = check.AtFault (fault_of f)
verdict_view (Fails cause line) = check.Fails (cause_of cause) line
verdict_view Unrun = check.Unrun

abbrev pub judged_view : Judged → check.Module
judged_view j = record { file = j.file; verdict = verdict_view j.verdict }

-- this holds in each plan of some files that has these readings
abbrev pub InFilePlans : Row → (Plan → Type 0) → Type 0
InFilePlans row P = (files : List File) (plan : Plan) → IsPlanOf files plan → readings row ≡ plan.reads → P plan

-- the prospects of the files of a row
abbrev pub AreProspects : Row → List Prospect → Type 0
AreProspects row ps = InReadPlans row (λ plan. (n : ℕ) (p : Prospect) → slice_get ps n ≡ Some p → IsProspect (needs plan) n p)

-- a load of a file, the first that is not sound
abbrev pub FailsByLoad : Plan → ℕ → Load → Type 0
FailsByLoad plan n l = (i : ℕ) × IsFirstLack plan n i × (slice_get (loads_of plan n) i ≡ Some l)

-- a file fails by its next file, and each file that fails by a load has one
pub record AreNexts (row : Row) (ps : List Prospect) (nexts : Nexts) : Type 0 where
  pub right : InReadPlans row (λ plan. AreProspects row ps → (n m : ℕ) → Goes nexts n m → FailsBy plan n m)
  pub all : InReadPlans row (λ plan. AreProspects row ps → (n i : ℕ) → slice_get ps n ≡ Some (Lacks i) → (m : ℕ) × Goes nexts n m)

-- this holds in each plan with these readings, if these are the prospects of its files and their next files
abbrev pub InToldPlans : Row → List Prospect → Nexts → (Plan → Type 0) → Type 0
InToldPlans row ps nexts P =
    (files : List File) (plan : Plan) → IsPlanOf files plan → readings row ≡ plan.reads → AreProspects row ps
    → AreNexts row ps nexts → P plan

-- this is the verdict on a file, by its reading, its prospect, and the next files
abbrev pub IsVerdictBy : Row → Nexts → ℕ → Read → Prospect → Verdict → Type 0
IsVerdictBy row nexts n r p v =
    (files : List File) (plan : Plan) (ps : List Prospect) → IsPlanOf files plan → readings row ≡ plan.reads
    → IsReached plan n → read_at row n ≡ Some r → slice_get ps n ≡ Some p → length ps ≡ length row
    → AreProspects row ps → AreNexts row ps nexts → IsVerdict plan n (verdict_view v)

-- the modules of the reached files below a number, in order
pub record IsCheckBelow (plan : Plan) (count : ℕ) (modules : List check.Module) : Type 0 where
  pub listed : AreListed plan count (map (λ m. m.file) modules)
  pub each : All (λ m. IsVerdict plan m.file m.verdict) modules

-- the file, and the files of its cause, are below a number
abbrev pub IsVerdictBelow : ℕ → Verdict → Type 0
IsVerdictBelow count (AtFault f) = Unit {0}
IsVerdictBelow count (Fails cause line) = IsBelow count (cause_of cause)
IsVerdictBelow count Unrun = Unit {0}

abbrev pub IsJudgedBelow : ℕ → Judged → Type 0
IsJudgedBelow count j = (j.file < count) × IsVerdictBelow count j.verdict

-- the file with this number and this prospect gets its verdict too, if it is reached
abbrev pub TellsNext : Row → Nexts → ℕ → Prospect → List Judged → List Judged → Type 0
TellsNext row nexts n p old new =
    (files : List File) (plan : Plan) (ps : List Prospect) → IsPlanOf files plan → readings row ≡ plan.reads
    → slice_get ps n ≡ Some p → length ps ≡ length row → AreProspects row ps → AreNexts row ps nexts
    → IsCheckBelow plan n (map judged_view old) → IsCheckBelow plan (n + 1) (map judged_view new)

-- the modules that are shown
abbrev pub shown_of : List File → Bool → Bool → List ℕ → List Judged → List Data
shown_of files only_roots calls roots js = shown_data only_roots calls files roots (map judged_view js)

-- this text and this answer are the check of these files for roots, by their readings
abbrev pub ChecksRead : Bool → Bool → List File → List ℕ → Row → List ℕ → Bool → Type 0
ChecksRead only_roots calls files roots row text ok =
    (plan : Plan) → IsPlanOf files plan → readings row ≡ plan.reads → plan.roots ≡ roots
    → IsCheckText only_roots calls files plan text × IsCheckAnswer plan ok
