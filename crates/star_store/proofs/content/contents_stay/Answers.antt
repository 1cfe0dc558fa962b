use Rattle.star_store.proofs.Contents.{contents_stay}
use Rattle.star_store.proofs.content.contents_stay.Goals as goal

pub returns : goal.returns
returns c = contents_stay
