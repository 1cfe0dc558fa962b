-- A file whose loads are asked for.
use Rattle.std.specs.Prelude.{◌≡◌, ◌≤◌, ℕ, List, Option, None, IfSome, length}
use Rattle.star_label.specs.Files.{File}
use Rattle.star_plan.specs.Plan.{Plan, loaded, loads_of}
use Rattle.star_plan.specs.Results.{IsFirstBad}
use Rattle.star_outcome.specs.Fits.{IsAsked}
use Rattle.star_outcome.specs.Views.{AreGoodLoads}
use Rattle.star_outcome.specs.declared.module.Module.{Module}

pub record FrameView : Type 0 where
  pub n : ℕ
  pub told : ℕ
  pub failed : Option ℕ
  pub modules : List Module

-- a file that may be asked for, whose first loads were answered: one of them is the first that is not good, or all are
-- good and these are their modules
pub record IsOpen (files : List File) (plan : Plan) (f : FrameView) : Type 0 where
  pub asked : IsAsked files plan f.n
  pub told : f.told ≤ length (loads_of plan f.n)
  pub bad : IfSome f.failed (IsFirstBad plan (loaded plan f.n))
  pub good : f.failed ≡ None → AreGoodLoads plan f.n f.told f.modules
