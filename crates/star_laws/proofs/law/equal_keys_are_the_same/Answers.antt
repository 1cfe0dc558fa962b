use Rattle.star_laws.proofs.Keys.{equal_keys_are_the_same}
use Rattle.star_laws.proofs.law.equal_keys_are_the_same.Goals as goal

pub returns : goal.returns
returns c = equal_keys_are_the_same
