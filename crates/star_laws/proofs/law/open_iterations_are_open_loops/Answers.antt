use Rattle.star_laws.proofs.Iterations.{open_iterations_are_open_loops}
use Rattle.star_laws.proofs.law.open_iterations_are_open_loops.Goals as goal

pub returns : goal.returns
returns c = open_iterations_are_open_loops
