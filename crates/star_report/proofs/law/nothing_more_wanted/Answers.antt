use Rattle.star_report.proofs.Nothing.{nothing_more_wanted}
use Rattle.star_report.proofs.law.nothing_more_wanted.Goals as goal

pub returns : goal.returns
returns c = nothing_more_wanted
