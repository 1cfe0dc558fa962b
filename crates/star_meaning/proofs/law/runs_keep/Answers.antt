use Rattle.star_meaning.proofs.Kept.{runs_keep}
use Rattle.star_meaning.proofs.law.runs_keep.Goals as goal

pub returns : goal.returns
returns c = runs_keep
