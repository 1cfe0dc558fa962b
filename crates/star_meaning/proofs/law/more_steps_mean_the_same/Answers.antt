use Rattle.star_meaning.proofs.MoreSteps.{local_more}
use Rattle.star_meaning.proofs.law.more_steps_mean_the_same.Goals as goal

pub returns : goal.returns
returns c = local_more
