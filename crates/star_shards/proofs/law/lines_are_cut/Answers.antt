use Rattle.star_shards.proofs.LineEnds as lemmas
use Rattle.star_shards.proofs.law.lines_are_cut.Goals as goal

pub returns : goal.returns
returns c = lemmas.lines_are_cut
