use Rattle.star_report.proofs.Edges as lemmas
use Rattle.star_report.proofs.law.edges_are_loads.Goals as goal

pub returns : goal.returns
returns c = lemmas.edges_are_loads
