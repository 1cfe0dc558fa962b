use Rattle.star_shards.proofs.Data as lemmas
use Rattle.star_shards.proofs.law.objects_end.Goals as goal

pub returns : goal.returns
returns c = lemmas.objects_end
