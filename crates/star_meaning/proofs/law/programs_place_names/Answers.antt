use Rattle.star_meaning.proofs.Resolved.{programs_place_names}
use Rattle.star_meaning.proofs.law.programs_place_names.Goals as goal

pub returns : goal.returns
returns c = programs_place_names
