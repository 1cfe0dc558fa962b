use Rattle.star_alike.proofs.law.files_in_order.Goals as goal
use Rattle.star_alike.proofs.Orders as lemmas

pub returns : goal.returns
returns c = lemmas.files_in_order
