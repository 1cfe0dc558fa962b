-- The data that loaders share: `IsContext` says that it is right for a plan. Also the facts at a turn of a file whose
-- loads are being asked for.
use Rattle.std.specs.Arc.{arc_value}
use Rattle.std.specs.Prelude.{◌≡◌, ◌+◌, ◌^◌, ◌<◌, ◌≤◌, ℕ, false, List, IfSome, Some, length, slice_get}
use Rattle.std.specs.declared.sync.Arc.{Arc}
use Rattle.star_cache.specs.State.{Loads}
use Rattle.star_cache.specs.Walk.{IsOnCycle}
use Rattle.star_label.specs.Files.{File}
use Rattle.star_scope.specs.declared.loads.Load.{Load}
use Rattle.star_plan.specs.Plan.{Plan, loaded, loads_of}
use Rattle.star_plan.specs.Reading.{IsPlanOf}
use Rattle.star_plan.specs.Runs.{ArePlaced}
use Rattle.star_reading.specs.Readings.{readings, table_of}
use Rattle.star_outcome.specs.Fits.{IsAsked, IsWithin}
use Rattle.star_outcome.specs.GoodEnds.{AreGoodEnds}
use Rattle.star_outcome.specs.Refusals.{IsRefusal}
use Rattle.star_outcome.specs.declared.good_end.GoodEnd.{GoodEnd}
use Rattle.star_outcome.specs.declared.module.Body.{Body}
use Rattle.star_host.specs.declared.common.LoadContext.{LoadContext}
use Rattle.star_host.specs.declared.loading.Turn.{Turn}
use Rattle.star_host.specs.declared.loading.Turn.TheVariants.{Again, Enter, Ended}

-- the data that loaders share is right for the cache: its files, the read files, their programs, its shelf, the
-- prelude's file and the mode. The read files are the plan of the files, and the ends that are known are good there
pub record IsContext (files : List File) (plan : Plan) (shelf : List ℕ) (c : LoadContext) : Type 0 where
  pub files_are : c.files.now ≡ files
  pub row_is : readings c.reads.now ≡ plan.reads
  pub table_is : c.programs.now ≡ table_of c.reads.now
  pub cells_are : c.modules.now ≡ shelf
  pub cells_fit : length shelf ≡ length files
  pub prelude_is : c.prelude ≡ plan.prelude
  pub prelude_fits : IfSome c.prelude (λ p. p < length files)
  pub mode_is : c.mode.now ≡ plan.mode
  pub steps_fit : (1 ≤ c.mode.now.steps) × (c.mode.now.steps ≤ 100000000)
  pub planned : IsPlanOf files plan
  pub placed : ArePlaced files plan c.programs.now
  pub ends_are : AreGoodEnds plan c.ends.now

-- the data are right, and the loaders may work for the roots of the plan
abbrev pub MayWork : List File → Plan → List ℕ → LoadContext → Type 0
MayWork files plan shelf c =
    IsContext files plan shelf c × IsWithin files plan × (c.roots.now ≡ plan.roots)
    × ((1 ≤ c.loaders) × (c.loaders ≤ 64))

-- the plan of loaders that share this data
abbrev pub plan_in : LoadContext → Plan
plan_in c = record { roots = c.roots.now; prelude = c.prelude; mode = c.mode.now; reads = readings c.reads.now }

-- this end of the file n is known
abbrev pub HasEnd : LoadContext → ℕ → GoodEnd → Type 0
HasEnd c n e = slice_get c.ends.now n ≡ Some (Some e)

-- the end of the file n is known, is not stale, and has this body
abbrev pub HasBody : {Z : Type 0} → LoadContext → ℕ → Arc Body Z → Type 0
HasBody c n b = (e : GoodEnd) × HasEnd c n e × (e.is_stale ≡ false) × (arc_value b ≡ arc_value e.body)

abbrev pub IsTurn : List File → Plan → Turn → Type 0
IsTurn files plan Again = Unit {0}
IsTurn files plan (Enter m) = IsAsked files plan m
IsTurn files plan Ended = Unit {0}

-- the load at place i of the file n, which is asked for next
pub record IsNextLoad (files : List File) (plan : Plan) (n i : ℕ) (l : Load) : Type 0 where
  pub within : i < length (loads_of plan n)
  pub fits : i + 1 < 2 ^ 64
  pub loads : Loads (loaded plan) n l.file
  pub there : slice_get (loaded plan n) i ≡ Some l.file
  pub asked : IsAsked files plan l.file
  pub refused : IsOnCycle (Loads (loaded plan)) n l.file
      → IsRefusal plan (record { file = n; index = i; loaded = l.file })
