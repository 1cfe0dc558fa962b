use Rattle.star_laws.proofs.Iterations.{files_begin_with_no_loop}
use Rattle.star_laws.proofs.law.files_begin_with_no_loop.Goals as goal

pub returns : goal.returns
returns c = files_begin_with_no_loop
