use Rattle.star_store.proofs.Contents.{same_keys}
use Rattle.star_store.proofs.content.same_keys_have_one_content.Goals as goal

pub returns : goal.returns
returns c = same_keys
