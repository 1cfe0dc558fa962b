use Rattle.star_parser.proofs.Once.{one_answer}
use Rattle.star_parser.proofs.law.one_answer.Goals as goal

pub returns : goal.returns
returns c = one_answer
