-- The causes at the ends of the paths of files.
use Rattle.std.specs.Prelude.{◌↔◌, ◌<◌, ℕ, List, All}
use Rattle.star_label.specs.Files.{File}
use Rattle.star_plan.specs.Causes.{Cause as PlanCause, Culprit as PlanCulprit, Cycle as PlanCycle, FailsBy, IsCause}
use Rattle.star_plan.specs.Plan.{Plan}
use Rattle.star_plan.specs.Reached.{IsReached}
use Rattle.star_plan.specs.Reading.{IsPlanOf}
use Rattle.star_plan.specs.Results.{IsGood}
use Rattle.star_cause.specs.declared.cause.Cause.{Cause}
use Rattle.star_cause.specs.declared.cause.Cause.TheVariants.{Culprit, Cycle}
use Rattle.star_cause.specs.Ways.{Goes, Nexts}

abbrev pub cause_of : Cause → PlanCause
cause_of (Culprit n) = PlanCulprit n
cause_of (Cycle ns) = PlanCycle ns.items

-- the files of a cause are below `count`
abbrev pub IsBelow : ℕ → PlanCause → Type 0
IsBelow count (PlanCulprit n) = n < count
IsBelow count (PlanCycle ns) = All (λ n. n < count) ns

-- the next file of each file of a plan is the one by which it fails
abbrev pub AreNextsOf : Plan → Nexts → Type 0
AreNextsOf plan nexts = (n m : ℕ) → Goes nexts n m ↔ FailsBy plan n m

-- this is the cause of a file, which is reached and not good, in each plan with these next files
abbrev pub IsCauseBy : Nexts → ℕ → PlanCause → Type 0
IsCauseBy nexts n cause =
    (files : List File) (plan : Plan) → IsPlanOf files plan → AreNextsOf plan nexts → IsReached plan n
    → (IsGood plan n → ⊥) → IsCause plan n cause
