use Rattle.star_laws.proofs.Dialects.{extended_has_them}
use Rattle.star_laws.proofs.law.extended_has_them.Goals as goal

pub returns : goal.returns
returns c = extended_has_them
