use Rattle.star_unseen.proofs.Looks.{same_seen}
use Rattle.star_unseen.proofs.law.visible_values_are_seen.Goals as goal

pub returns : goal.returns
returns c = λ w k s v h. same_seen k s v h
