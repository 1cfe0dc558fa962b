use Rattle.star_alike.proofs.law.sessions_serve.Goals as goal
use Rattle.star_alike.proofs.Sessions as lemmas

pub returns : goal.returns
returns c it = lemmas.sessions_serve _ _
