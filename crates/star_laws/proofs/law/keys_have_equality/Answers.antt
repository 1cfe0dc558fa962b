use Rattle.star_laws.proofs.Keys.{keys_have_equality}
use Rattle.star_laws.proofs.law.keys_have_equality.Goals as goal

pub returns : goal.returns
returns c = keys_have_equality
