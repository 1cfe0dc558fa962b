use Rattle.star_syntax.proofs.InTheReading.{read_in_order}
use Rattle.star_syntax.proofs.law.read_in_order.Goals as goal

pub returns : goal.returns
returns c = read_in_order
