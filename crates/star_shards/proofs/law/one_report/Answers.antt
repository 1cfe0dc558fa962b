use Rattle.star_shards.proofs.LineEnds as lemmas
use Rattle.star_shards.proofs.law.one_report.Goals as goal

pub returns : goal.returns
returns c = lemmas.one_report
