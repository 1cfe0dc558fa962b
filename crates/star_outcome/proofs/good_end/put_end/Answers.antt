use Rattle.star_outcome.proofs.GoodEnds.{is_put}
use Rattle.star_outcome.proofs.good_end.put_end.Goals as goal

pub returns-in-Some-clause-put : goal.returns-in-Some-clause-put
returns-in-Some-clause-put c = is_put c.args.it.now c.args.ends.now.items c.in_ok-end.field-0 c.in-Some.end c.in-Some.is c.in_ok-end.ensures
