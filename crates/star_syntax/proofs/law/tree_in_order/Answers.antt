use Rattle.star_syntax.proofs.InTheReading.{tree_in_order}
use Rattle.star_syntax.proofs.law.tree_in_order.Goals as goal

pub returns : goal.returns
returns c = tree_in_order
