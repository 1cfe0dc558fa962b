use Rattle.star_lines.proofs.Texts as lemmas
use Rattle.star_lines.proofs.law.joins_are_reports.Goals as goal

pub returns : goal.returns
returns c = lemmas.joins_are_reports
