use Rattle.std.proofs.Common.{rules}
use Rattle.star_scope.proofs.loads.lead_of.Goals as goal

pub returns-in-Err-BadLabel-clause-leads : goal.returns-in-Err-BadLabel-clause-leads
returns-in-Err-BadLabel-clause-leads c = c.read.ensures.none (search rules)
