use Rattle.star_laws.proofs.Sets.{merged_hold}
use Rattle.star_laws.proofs.law.merged_sets_hold.Goals as goal

pub returns : goal.returns
returns c = merged_hold
