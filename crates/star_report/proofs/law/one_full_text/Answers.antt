use Rattle.star_report.proofs.OneText.{one_full_text}
use Rattle.star_report.proofs.law.one_full_text.Goals as goal

pub returns : goal.returns
returns c = one_full_text
