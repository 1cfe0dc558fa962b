use Rattle.star_laws.proofs.Iterations.{loops_are_counted}
use Rattle.star_laws.proofs.law.loops_are_counted.Goals as goal

pub returns : goal.returns
returns c = loops_are_counted
