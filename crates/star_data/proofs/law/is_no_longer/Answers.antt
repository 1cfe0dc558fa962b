use Rattle.star_data.proofs.Size.{is_no_longer}
use Rattle.star_data.proofs.law.is_no_longer.Goals as goal

pub returns : goal.returns
returns c = is_no_longer
