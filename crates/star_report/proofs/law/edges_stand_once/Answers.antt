use Rattle.star_report.proofs.Edges as lemmas
use Rattle.star_report.proofs.law.edges_stand_once.Goals as goal

pub returns : goal.returns
returns c = lemmas.edges_stand_once
