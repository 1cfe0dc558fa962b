use Rattle.star_laws.proofs.Sets.{merged_differ}
use Rattle.star_laws.proofs.law.merged_sets_differ.Goals as goal

pub returns : goal.returns
returns c = merged_differ
