use Rattle.star_report.proofs.Fails.{fails_not}
use Rattle.star_report.proofs.report.next_of.Goals as goal

pub returns-in_default : goal.returns-in_default
returns-in_default c = record { within = tt; fails = fails_not c.args.it.now c.in_default.not-Load }
