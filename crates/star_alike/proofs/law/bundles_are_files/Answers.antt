use Rattle.star_alike.proofs.law.bundles_are_files.Goals as goal
use Rattle.star_alike.proofs.Bundles as lemmas

pub returns : goal.returns
returns c = lemmas.bundles_are_files
