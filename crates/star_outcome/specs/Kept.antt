-- The modules of a run, and the notes that know them.
use Rattle.std.specs.Prelude.{◌≡◌, ◌<◌, ◌↔◌, ℕ, true, List, Option, Some, All, Contains, length, map, slice_index, slice_index_or}
use Rattle.std.specs.List.Sorted.{IsStrictlyIncreasing}
use Rattle.star_dialect.specs.declared.Mode.{Mode}
use Rattle.star_label.specs.Files.{File}
use Rattle.star_plan.specs.Plan.{Plan}
use Rattle.star_plan.specs.Reached.{IsReached}
use Rattle.star_plan.specs.Reading.{IsPlanOf}
use Rattle.star_outcome.specs.Views.{IsModule, ended_well}
use Rattle.star_outcome.specs.declared.module.Ended.{Ended}
use Rattle.star_outcome.specs.declared.module.Ended.TheVariants.{Static, Load as Unloaded, Stopped, Good}
use Rattle.star_outcome.specs.declared.module.Module.{Module}
use Rattle.star_outcome.specs.declared.trace.CyclicLoad.{CyclicLoad}

pub record KeptView : Type 0 where
  pub number : ℕ
  pub cell : ℕ
  pub known : Option Module

pub record RunView : Type 0 where
  pub cells : List ℕ
  pub kept : List KeptView
  pub begun : ℕ
  pub per_loader : List ℕ
  pub refused : List CyclicLoad

-- the index of the load that is not good is below `count`
abbrev pub IsLoadBelow : ℕ → Ended → Type 0
IsLoadBelow count (Static f) = Unit {0}
IsLoadBelow count (Unloaded index line) = index < count
IsLoadBelow count (Stopped code line lines left) = Unit {0}
IsLoadBelow count (Good body) = Unit {0}

-- a module of the file n, whose loads are below `count`
pub record IsSound (count n : ℕ) (m : Module) : Type 0 where
  pub number : m.number ≡ n
  pub loads : All (λ k. k < count) m.loads.items
  pub ended : IsLoadBelow (length m.loads.items) m.ended

-- a note of its file's cell, which knows a module of the file
pub record IsKept (cells : List ℕ) (k : KeptView) : Type 0 where
  pub file : k.number < length cells
  pub cell : k.cell ≡ slice_index cells k.number
  pub found : Module
  pub known : k.known ≡ Some found
  pub sound : IsSound (length cells) k.number found

abbrev pub AllKept : List ℕ → List KeptView → Type 0
AllKept cells ks = (i : ℕ) (d : KeptView) → i < length ks → IsKept cells (slice_index_or ks i d)

-- a note that knows the module of its file, which is reached
abbrev pub IsModuleKept : Plan → KeptView → Type 0
IsModuleKept plan k = IsReached plan k.number × ((m : Module) × (k.known ≡ Some m) × IsModule plan k.number m)

-- these know the modules of all reached files below a number, in order
pub record AreModulesBelow (plan : Plan) (count : ℕ) (ks : List KeptView) : Type 0 where
  pub in_order : IsStrictlyIncreasing (map (λ k. k.number) ks)
  pub below : All (λ n. n < count) (map (λ k. k.number) ks)
  pub all : (n : ℕ) → IsReached plan n → n < count → Contains (map (λ k. k.number) ks) n
  pub each : All (IsModuleKept plan) ks

-- these know the modules of exactly the reached files, in order
pub record AreModules (plan : Plan) (ks : List KeptView) : Type 0 where
  pub in_order : IsStrictlyIncreasing (map (λ k. k.number) ks)
  pub reached : (n : ℕ) → IsReached plan n ↔ Contains (map (λ k. k.number) ks) n
  pub each : All (λ k. (m : Module) × (k.known ≡ Some m) × IsModule plan k.number m) ks

-- these know the modules of exactly the reached files of the plan with these files, roots, prelude and mode
abbrev pub AreModulesOf : List File → List ℕ → Option ℕ → Mode → List KeptView → Type 0
AreModulesOf files roots prelude mode ks =
    (plan : Plan) × IsPlanOf files plan × (plan.roots ≡ roots) × (plan.prelude ≡ prelude) × (plan.mode ≡ mode)
    × AreModules plan ks

-- a note that knows a module which is good
abbrev pub IsGoodKept : KeptView → Type 0
IsGoodKept k = (m : Module) × (k.known ≡ Some m) × (ended_well m.ended ≡ true)

-- all of them know good modules
abbrev pub AllGood : List KeptView → Type 0
AllGood ks = All IsGoodKept ks
