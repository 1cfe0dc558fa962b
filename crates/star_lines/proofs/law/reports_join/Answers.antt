use Rattle.star_lines.proofs.Joins as lemmas
use Rattle.star_lines.proofs.law.reports_join.Goals as goal

pub returns : goal.returns
returns c = lemmas.reports_join
