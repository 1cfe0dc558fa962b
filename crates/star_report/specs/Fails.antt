-- The files by which files fail, as they are found among the modules of a run.
use Rattle.std.specs.Prelude.{◌<◌, ℕ, List, slice_index_or}
use Rattle.star_label.specs.Files.{File}
use Rattle.star_plan.specs.Causes.{FailsBy}
use Rattle.star_plan.specs.Plan.{Plan}
use Rattle.star_plan.specs.Reading.{IsPlanOf}
use Rattle.star_cause.specs.Causes.{AreNextsOf}
use Rattle.star_cause.specs.Ways.{Goes, Nexts}
use Rattle.star_outcome.specs.Kept.{AreModules, KeptView}

abbrev pub AreBelow : ℕ → Nexts → Type 0
AreBelow count nexts = (n m : ℕ) → Goes nexts n m → m < count

-- the next file of a file is the one by which it fails, and the files of the first `count` notes have their next files
pub record AreFailsBelow (plan : Plan) (ks : List KeptView) (count : ℕ) (nexts : Nexts) : Type 0 where
  pub right : (n m : ℕ) → Goes nexts n m → FailsBy plan n m
  pub all : (k : ℕ) (d : KeptView) → k < count → (m : ℕ) → FailsBy plan (slice_index_or ks k d).number m
      → Goes nexts (slice_index_or ks k d).number m

-- in each plan whose modules these notes know, these are the files by which files fail
abbrev pub AreFails : List KeptView → Nexts → Type 0
AreFails ks nexts = (files : List File) (plan : Plan) → IsPlanOf files plan → AreModules plan ks → AreNextsOf plan nexts
