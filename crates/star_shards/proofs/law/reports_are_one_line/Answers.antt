use Rattle.star_shards.proofs.LineEnds as lemmas
use Rattle.star_shards.proofs.law.reports_are_one_line.Goals as goal

pub returns : goal.returns
returns c = lemmas.reports_are_one_line
