use Rattle.star_laws.proofs.Iterations.{runs_end_their_loops}
use Rattle.star_laws.proofs.law.runs_end_their_loops.Goals as goal

pub returns : goal.returns
returns c = runs_end_their_loops
