use Rattle.star_meaning.proofs.LoadedFit.{loads_fit}
use Rattle.star_meaning.proofs.law.loads_fit.Goals as goal

pub returns : goal.returns
returns c = loads_fit
