use Rattle.star_syntax.proofs.InTheReading.{read_is_written}
use Rattle.star_syntax.proofs.law.read_is_written.Goals as goal

pub returns : goal.returns
returns c = read_is_written
