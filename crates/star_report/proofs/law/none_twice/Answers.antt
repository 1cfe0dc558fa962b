use Rattle.star_report.proofs.Told.{none_twice}
use Rattle.star_report.proofs.law.none_twice.Goals as goal

pub returns : goal.returns
returns c = none_twice c.globals_stand_once.ensures
