use Rattle.star_syntax.proofs.Writing.{writable}
use Rattle.star_syntax.proofs.law.all_writable.Goals as goal

pub returns : goal.returns
returns c = writable
