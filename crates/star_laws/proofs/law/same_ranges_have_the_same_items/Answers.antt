use Rattle.star_laws.proofs.Ranges.{same_ranges_have_the_same_items}
use Rattle.star_laws.proofs.law.same_ranges_have_the_same_items.Goals as goal

pub returns : goal.returns
returns c = same_ranges_have_the_same_items
