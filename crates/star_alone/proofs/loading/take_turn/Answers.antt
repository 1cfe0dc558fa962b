use Rattle.std.proofs.Common.{Some}
use Rattle.star_cache.specs.Tells.{IsCyclic}
use Rattle.star_plan.specs.Plan.{loaded}
use Rattle.star_outcome.specs.Views.{IsTold}
use Rattle.star_host.proofs.Turns.{cycle_load, failed_load}
use Rattle.star_alone.proofs.loading.take_turn.Goals as goal

pub refuse-requires-clause-bad : goal.refuse-requires-clause-bad
refuse-requires-clause-bad g c = failed_load (IsTold g.J.RunId.files g.J.RunId.plan) (IsCyclic (loaded g.J.RunId.plan) (Some c.number-file.result) c.in-Some.load.file) ⊥ g.J.RunId.plan c.args.top.now.n c.args.top.now.told c.in-Some.load.file _ _ c.in-Some.ensures.there c.in-Ok-Failed.field-0-is c.in-Ok-Failed.ensures.tells

pub refuse-requires-in-Ok-Cycle-clause-bad : goal.refuse-requires-in-Ok-Cycle-clause-bad
refuse-requires-in-Ok-Cycle-clause-bad g c = cycle_load g.J.RunId.plan c.args.top.now.n c.args.top.now.told c.in-Some.load.file c.number-file.result c.in-Some.ensures.there c.number-file.ensures.number (rw c.in-Ok-Cycle.field-0-is at c.in-Ok-Cycle.ensures.tells)
