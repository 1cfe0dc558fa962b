use Rattle.star_store.proofs.Contents.{keys_have}
use Rattle.star_store.proofs.content.keys_have_contents.Goals as goal

pub returns : goal.returns
returns c = keys_have
