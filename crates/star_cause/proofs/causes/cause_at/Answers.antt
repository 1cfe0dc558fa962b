use Rattle.std.proofs.Common.{subst}
use Rattle.star_cause.specs.Ends.{HasEnd}
use Rattle.star_cause.proofs.Leads.{has_way, trail_ends}
use Rattle.star_cause.proofs.causes.cause_at.Goals as goal

pub trail-requires : goal.trail-requires
trail-requires c = has_way c.args.nexts.now c.requires.0 c.in-Around.first c.in-Around.count (subst (HasEnd c.args.nexts.now c.requires.0) c.in-Around.is c.requires.1)

pub returns-in_ok-trail-in-Around : goal.returns-in_ok-trail-in-Around
returns-in_ok-trail-in-Around c = λ n has. trail_ends c.args.nexts.now n c.in-Around.first c.in-Around.count c.in_ok-trail-in-Around.field-0.items (subst (HasEnd c.args.nexts.now n) c.in-Around.is has) c.in_ok-trail-in-Around.ensures
