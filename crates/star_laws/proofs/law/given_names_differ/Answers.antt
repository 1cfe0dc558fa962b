use Rattle.star_laws.proofs.Names.{given_names_differ}
use Rattle.star_laws.proofs.law.given_names_differ.Goals as goal

pub returns : goal.returns
returns c = given_names_differ
