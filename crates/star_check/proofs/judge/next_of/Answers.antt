use Rattle.star_check.proofs.Rows.{next_fails}
use Rattle.star_check.proofs.judge.next_of.Goals as goal

pub returns-in-Some-clause-fails : goal.returns-in-Some-clause-fails
returns-in-Some-clause-fails c = λ plan read at. next_fails plan c.args.n c.in-Some.load.now (c.in-Some.ensures.load plan read at)

pub returns-in-None-clause-none : goal.returns-in-None-clause-none
returns-in-None-clause-none c = λ e plan read at i same. c.load_by.ensures.none c.in-None.is plan read at i same
