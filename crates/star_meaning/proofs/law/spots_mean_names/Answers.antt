use Rattle.star_meaning.proofs.ReadPlaces.{spots_mean_names}
use Rattle.star_meaning.proofs.law.spots_mean_names.Goals as goal

pub returns : goal.returns
returns c = spots_mean_names
