use Rattle.star_alike.proofs.law.sessions_are_processes.Goals as goal
use Rattle.star_alike.proofs.Sessions as lemmas

pub returns : goal.returns
returns c = lemmas.sessions_are_processes
