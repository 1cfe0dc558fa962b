use Rattle.star_report.proofs.Told.{none_dropped}
use Rattle.star_report.proofs.law.none_dropped.Goals as goal

pub returns : goal.returns
returns c = none_dropped
