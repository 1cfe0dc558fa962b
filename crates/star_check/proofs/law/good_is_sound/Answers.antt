use Rattle.star_check.proofs.Judgements.{good_sound}
use Rattle.star_check.proofs.law.good_is_sound.Goals as goal

pub returns : goal.returns
returns c = good_sound
