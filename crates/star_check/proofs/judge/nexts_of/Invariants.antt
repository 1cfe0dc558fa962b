use Rattle.star_check.proofs.Rows.{AreNextsBelow}
use Rattle.star_check.proofs.judge.nexts_of.Given as goal

abbrev pub invariant-loop-n : goal.invariant-loop-n
invariant-loop-n l = AreNextsBelow l.reads.all.items l.prospects l.n l.nexts.items
