use Rattle.star_plan.proofs.Tables.{prelude_sound}
use Rattle.star_plan.proofs.law.good_loads_have_prelude.Goals as goal

pub returns : goal.returns
returns c = prelude_sound
