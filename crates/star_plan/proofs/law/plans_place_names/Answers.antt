use Rattle.star_plan.proofs.Tables.{tables_right}
use Rattle.star_plan.proofs.law.plans_place_names.Goals as goal

pub returns : goal.returns
returns c = tables_right
