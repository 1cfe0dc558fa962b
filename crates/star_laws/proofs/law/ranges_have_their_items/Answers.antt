use Rattle.star_laws.proofs.Ranges.{ranges_have_their_items}
use Rattle.star_laws.proofs.law.ranges_have_their_items.Goals as goal

pub returns : goal.returns
returns c = ranges_have_their_items
