-- Modules and products of the code, as contracts see them: the outcome of a file.
use Rattle.std.specs.Arc.{arc_value}
use Rattle.std.specs.Prelude.{◌≡◌, ◌<◌, ℕ, Bool, true, false, List, Option, Some, All, Contains, length, map, slice_get}
use Rattle.star_cache.specs.State.{Loads}
use Rattle.star_cache.specs.Walk.{LeadsTo}
use Rattle.star_label.specs.Files.{File}
use Rattle.star_scope.specs.declared.loads.Load.{Load}
use Rattle.star_store.specs.declared.values.Value.{Value}
use Rattle.star_store.specs.Store.{Shelf}
use Rattle.star_meaning.specs.Module.{Good as WentWell, Stopped as HadFault}
use Rattle.star_plan.specs.Plan.{Plan, loaded, loads_of}
use Rattle.star_plan.specs.Results.{IsGood, IsOutcome, Ran, Static as StaticOutcome, Unloaded as UnloadedOutcome}
use Rattle.star_plan.specs.Shelves.{IsOwn}
use Rattle.star_reading.specs.Codes.{fault_of}
use Rattle.star_outcome.specs.Fits.{IsAsked}
use Rattle.star_outcome.specs.Paid.{HasPaid}
use Rattle.star_outcome.specs.Reaches.{ReachView, row_of}
use Rattle.star_outcome.specs.declared.module.Body.{Body}
use Rattle.star_outcome.specs.declared.module.Ended.{Ended}
use Rattle.star_outcome.specs.declared.module.Ended.TheVariants.{Static, Load as Unloaded, Stopped, Good}
use Rattle.star_outcome.specs.declared.module.Module.{Module}

abbrev pub ended_well : Ended → Bool
ended_well (Static f) = false
ended_well (Unloaded index line) = false
ended_well (Stopped code line lines left) = false
ended_well (Good body) = true

-- these are the stores of the file n and of all files that its loads lead to. Each store is its file's own
pub record AreStores (plan : Plan) (n : ℕ) (rs : List ReachView) : Type 0 where
  pub own : All (λ r. LeadsTo (Loads (loaded plan)) n r.number × IsOwn plan r.number r.store) rs
  pub all : (k : ℕ) → LeadsTo (Loads (loaded plan)) n k → Contains (map (λ r. r.number) rs) k

-- the result of the file n, whose outcome is a good run: the texts of its globals, its lines, the stores, and the steps
-- that it has paid
pub record IsBody (plan : Plan) (n : ℕ) (b : Body) : Type 0 where
  pub shelf : Shelf
  pub globals : List (List ℕ × Value)
  pub outcome : IsOutcome plan n (Ran (WentWell shelf globals (arc_value b.shown) b.lines.items))
  pub stores : AreStores plan n (row_of b.stores)
  pub paid : HasPaid plan n b.paid

-- this is the end of the file n: it has the file's outcome
abbrev pub IsEnd : Plan → ℕ → Ended → Type 0
IsEnd plan n (Static f) = IsOutcome plan n (StaticOutcome (fault_of f))
IsEnd plan n (Unloaded index line) =
    IsOutcome plan n (UnloadedOutcome index) × ((l : Load) × (slice_get (loads_of plan n) index ≡ Some l)
    × (l.line ≡ line))
IsEnd plan n (Stopped code line lines left) =
    IsOutcome plan n (Ran (HadFault (record { code = code; line = line }) lines.items))
IsEnd plan n (Good body) = IsBody plan n (arc_value body)

-- a module of the file n, with the files that it loads
pub record IsModule (plan : Plan) (n : ℕ) (m : Module) : Type 0 where
  pub number : m.number ≡ n
  pub loads : m.loads.items ≡ loaded plan n
  pub ended : IsEnd plan n m.ended

-- a module of the file n, which is good
abbrev pub IsGoodModule : Plan → ℕ → Module → Type 0
IsGoodModule plan n m = IsModule plan n m × (ended_well m.ended ≡ true)

-- the first loads of the file n are good, and these are their modules
pub record AreGoodLoads (plan : Plan) (n told : ℕ) (ms : List Module) : Type 0 where
  pub count : length ms ≡ told
  pub each : (i m : ℕ) → i < told → slice_get (loaded plan n) i ≡ Some m → (it : Module) × (slice_get ms i ≡ Some it)
      × IsGoodModule plan m it

-- the load at this place of the file n leads to a file with this module
abbrev pub IsModuleAt : Plan → ℕ → ℕ → Module → Type 0
IsModuleAt plan n i it = (m : ℕ) × (slice_get (loaded plan n) i ≡ Some m) × IsModule plan m it

-- the load at this place of the file n leads to a file that is not good
abbrev pub IsBadLoad : Plan → ℕ → ℕ → Type 0
IsBadLoad plan n i = (m : ℕ) × (slice_get (loaded plan n) i ≡ Some m) × (IsGood plan m → ⊥)

pub record ToldView : Type 0 where
  pub number : ℕ
  pub good : Bool
  pub known : Option Module

-- the product of the file n, which was asked for: its module, and whether it is good
pub record IsTold (files : List File) (plan : Plan) (n : ℕ) (t : ToldView) : Type 0 where
  pub number : t.number ≡ n
  pub asked : IsAsked files plan n
  pub found : Module
  pub known : t.known ≡ Some found
  pub right : IsModule plan n found
  pub good : t.good ≡ ended_well found.ended
