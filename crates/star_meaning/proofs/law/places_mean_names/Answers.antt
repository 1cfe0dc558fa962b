use Rattle.star_meaning.proofs.ByPlaces.{places_mean_names}
use Rattle.star_meaning.proofs.law.places_mean_names.Goals as goal

pub returns : goal.returns
returns c = places_mean_names
