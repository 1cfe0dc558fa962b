-- The loads that are refused.
use Rattle.std.specs.Prelude.{◌≡◌, ℕ, All, List, Option, Some, slice_get}
use Rattle.star_dialect.specs.declared.Mode.{Mode}
use Rattle.star_cache.specs.State.{Loads}
use Rattle.star_cache.specs.Walk.{IsOnCycle}
use Rattle.star_label.specs.Files.{File}
use Rattle.star_plan.specs.Plan.{Plan, loaded}
use Rattle.star_plan.specs.Reading.{IsPlanOf}
use Rattle.star_outcome.specs.declared.trace.CyclicLoad.{CyclicLoad}

-- the load with this index in the first file is a load of the other file, and lies on a load cycle
pub record IsRefusal (plan : Plan) (r : CyclicLoad) : Type 0 where
  pub there : slice_get (loaded plan r.file) r.index ≡ Some r.loaded
  pub cycle : IsOnCycle (Loads (loaded plan)) r.file r.loaded

-- each of these is such a load
abbrev pub AreRefusals : Plan → List CyclicLoad → Type 0
AreRefusals plan rs = All (IsRefusal plan) rs

-- each is such a load in the plan with these files, roots, prelude and mode
abbrev pub AreRefusalsOf : List File → List ℕ → Option ℕ → Mode → List CyclicLoad → Type 0
AreRefusalsOf files roots prelude mode rs =
    (plan : Plan) × IsPlanOf files plan × (plan.roots ≡ roots) × (plan.prelude ≡ prelude) × (plan.mode ≡ mode)
    × AreRefusals plan rs
