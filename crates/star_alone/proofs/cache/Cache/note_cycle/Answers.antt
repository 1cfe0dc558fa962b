use Rattle.std.proofs.Common.{sym, subst}
use Rattle.star_outcome.specs.Refusals.{AreRefusals}
use Rattle.star_outcome.proofs.RefusedLoads.{one_refused}
use Rattle.star_alone.proofs.cache.Cache.note_cycle.Goals as goal

pub invariant_of-self-2 : goal.invariant_of-self-2
invariant_of-self-2 g c = (c.self.invariant.0, subst (AreRefusals g.J.RunId.plan) (sym c.in_ok-push.ensures.items) (one_refused g.J.RunId.plan c.self.inside.refused.items c.args.load c.self.invariant.1 c.requires))
