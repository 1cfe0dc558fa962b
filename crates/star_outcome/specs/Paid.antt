-- The steps that a run has paid.
use Rattle.std.specs.Prelude.{◌≡◌, ℕ, ◌-◌, List, Some}
use Rattle.star_tree.specs.declared.tree.Statement.{Statement}
use Rattle.star_meaning.specs.Module.{Ended, Local}
use Rattle.star_meaning.specs.Run.{Done, State}
use Rattle.star_plan.specs.Plan.{Plan, loaded, read_of, tree_in}
use Rattle.star_plan.specs.Results.{AreGood}
use Rattle.star_plan.specs.Runs.{run_by_names}

-- the run of the file n, over the good outcomes of its loads, came to its end and has paid these steps: the steps that
-- it was given, less those that are left
pub record HasPaid (plan : Plan) (n paid : ℕ) : Type 0 where
  pub statements : List Statement
  pub outcomes : List Local
  pub ended : Ended
  pub state : State
  pub sound : tree_in (read_of plan n) ≡ Some statements
  pub good : AreGood plan (loaded plan n) outcomes
  pub run : run_by_names plan n statements outcomes ≡ Done ended state
  pub steps : paid ≡ plan.mode.steps - state.steps
