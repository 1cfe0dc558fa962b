use Rattle.star_alike.proofs.law.bundles_reply.Goals as goal
use Rattle.star_alike.proofs.Orders as lemmas

pub returns : goal.returns
returns c = lemmas.bundles_reply
