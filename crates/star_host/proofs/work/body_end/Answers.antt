use Rattle.star_outcome.specs.Fits.{asked_below}
use Rattle.star_host.proofs.Shared.{known_end}
use Rattle.star_host.proofs.work.body_end.Goals as goal

pub returns-in-Some : goal.returns-in-Some
returns-in-Some g c = known_end g.J.RunId.files g.J.RunId.plan g.J.RunId.shelf c.args.common.now c.args.n c.in_ok-body.field-0 c.in-Some.body c.requires.world c.requires.asked.1 c.in-Some.is c.in_ok-body.ensures

pub run-requires-clause-file : goal.run-requires-clause-file
run-requires-clause-file g c = asked_below g.J.RunId.files g.J.RunId.plan c.args.n c.requires.asked
