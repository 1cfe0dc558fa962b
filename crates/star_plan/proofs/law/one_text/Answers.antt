use Rattle.star_plan.proofs.Texts.{one_text}
use Rattle.star_plan.proofs.law.one_text.Goals as goal

pub returns : goal.returns
returns c = one_text
