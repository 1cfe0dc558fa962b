use Rattle.star_outcome.specs.Fits.{asked_below}
use Rattle.star_outcome.proofs.open_file.OpenFile.number.Goals as goal

pub returns-clause-file : goal.returns-clause-file
returns-clause-file g c = asked_below _ _ _ c.self.invariant.asked
