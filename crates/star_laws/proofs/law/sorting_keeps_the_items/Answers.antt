use Rattle.star_laws.proofs.Orders.{sorting_keeps_the_items}
use Rattle.star_laws.proofs.law.sorting_keeps_the_items.Goals as goal

pub returns : goal.returns
returns c = sorting_keeps_the_items
