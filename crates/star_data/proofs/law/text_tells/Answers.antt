use Rattle.star_data.proofs.Reading.{text_tells}
use Rattle.star_data.proofs.law.text_tells.Goals as goal

pub returns : goal.returns
returns c = text_tells
