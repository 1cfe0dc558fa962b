use Rattle.std.proofs.Common.{refl}
use Rattle.star_report.proofs.Drawings.{node_is}
use Rattle.star_report.proofs.graph.node_of.Goals as goal

pub returns-clause-node : goal.returns-clause-node
returns-clause-node c = λ plan read is.
    node_is plan c.args.reads.now.all.items c.args.it.now (record { file = c.args.it.now.number; is_ok = c.is_good.result; edges = c.in_ok-edges_of.field-0 }) read is refl c.is_good.ensures c.in_ok-edges_of.ensures.targets c.in_ok-edges_of.ensures.cycles
