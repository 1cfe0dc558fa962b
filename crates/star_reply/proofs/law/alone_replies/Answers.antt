use Rattle.star_reply.proofs.law.alone_replies.Goals as goal
use Rattle.star_reply.proofs.Replies as lemmas

pub returns : goal.returns
returns c = lemmas.alone_replies
