use Rattle.star_alike.proofs.law.sessions_answer.Goals as goal
use Rattle.star_alike.proofs.Sessions as lemmas

pub returns : goal.returns
returns c = lemmas.sessions_answer
