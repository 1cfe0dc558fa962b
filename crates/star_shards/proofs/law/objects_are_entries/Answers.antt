use Rattle.star_shards.proofs.Found as lemmas
use Rattle.star_shards.proofs.law.objects_are_entries.Goals as goal

pub returns : goal.returns
returns c = lemmas.objects_are_entries
