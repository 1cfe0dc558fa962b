use Rattle.star_lines.proofs.Lines as lemmas
use Rattle.star_lines.proofs.law.reports_are_lines.Goals as goal

pub returns : goal.returns
returns c = lemmas.reports_are_lines
