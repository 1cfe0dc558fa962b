-- The outcome of the run of a body, and its meaning in its world.
use Rattle.std.specs.Prelude.{◌≡◌, ◌-◌, ℕ, IfOk, List, Option, Result}
use Rattle.star_dialect.specs.declared.Language.{Language}
use Rattle.star_scope.specs.declared.loads.Load.{Load}
use Rattle.star_tree.specs.declared.tree.Statement.{Statement}
use Rattle.star_meaning.specs.Module.{local}
use Rattle.star_meaning.specs.Program.{Setting}
use Rattle.star_meaning.specs.Programs.{Files}
use Rattle.star_world.specs.World.{World, world_of}
use Rattle.star_module.specs.declared.module.Outcome.{Outcome}
use Rattle.star_module.specs.declared.module.Outcome.TheVariants as outcome
use Rattle.star_module.specs.Outcomes.{AreReady, IsOutcome as IsRunOutcome, semantics, run_by_names}
use Rattle.star_outcome.specs.Homes.{shelf_of}
use Rattle.star_outcome.specs.Paid.{HasPaid}
use Rattle.star_outcome.specs.Reaches.{StoreRowView}
use Rattle.star_plan.specs.Plan.{Plan}
use Rattle.star_plan.specs.Results.{IsOutcome, Ran}
use Rattle.star_plan.specs.Shelves.{IsOwn}

-- the world of a file whose body runs over the stores of a row
abbrev pub world_in : ℕ → StoreRowView → Files → List Load → Option ℕ → Language → World
world_in home reaches programs loads prelude language = world_of home (shelf_of reaches) programs loads prelude language

-- if the world is ready, this is the meaning of a file with these statements
abbrev pub MeansLocal : {E : Type 0} → World → ℕ → List Statement → Result Outcome E → Type 0
MeansLocal w steps ss result = AreReady w steps → IfOk result (λ o. semantics w.setting o ≡ local w.setting steps ss)

-- and the outcome of their run by names
abbrev pub IsRunOf : {E : Type 0} → World → ℕ → List Statement → Result Outcome E → Type 0
IsRunOf w steps ss result = AreReady w steps → IfOk result (λ o. IsRunOutcome (run_by_names w.setting steps ss) o)

-- the module that a good run left is the file's own
abbrev pub IsOwnIn : Plan → ℕ → Outcome → Type 0
IsOwnIn plan n (outcome.Good frozen texts lines left) = IsOwn plan n frozen
IsOwnIn plan n (outcome.Fault code line lines remains) = Unit {0}

-- a good run has paid the steps that were given, less those that are left
abbrev pub IsPaidIn : Plan → ℕ → Outcome → Type 0
IsPaidIn plan n (outcome.Good frozen texts lines left) = HasPaid plan n (plan.mode.steps - left)
IsPaidIn plan n (outcome.Fault code line lines remains) = Unit {0}

-- this is the outcome of a run of the file n: the file's outcome
pub record IsRan (plan : Plan) (n : ℕ) (o : Outcome) : Type 0 where
  pub over : Setting
  pub outcome : IsOutcome plan n (Ran (semantics over o))
  pub own : IsOwnIn plan n o
  pub paid : IsPaidIn plan n o
