use Rattle.star_report.proofs.Edges as lemmas
use Rattle.star_report.proofs.law.report_as_before.Goals as goal

pub returns : goal.returns
returns c = lemmas.report_as_before
