use Rattle.star_alike.proofs.law.changes_follow.Goals as goal
use Rattle.star_alike.proofs.Sessions as lemmas

pub returns : goal.returns
returns c = lemmas.changes_follow
