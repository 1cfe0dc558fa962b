use Rattle.std.proofs.Common.{subst, sym}
use Rattle.star_report.specs.Drawn.{IsNextNode}
use Rattle.star_report.proofs.Drawings.{next_none, next_some}
use Rattle.star_report.proofs.graph.push_node.Goals as goal

pub returns-in_ok-push-in-Some-clause-graph : goal.returns-in_ok-push-in-Some-clause-graph
returns-in_ok-push-in-Some-clause-graph c = λ plan read.
    let old = c.args.nodes.now.items in
    let new = c.push.new.self.items in
    subst (λ e. IsNextNode plan e old new) (sym c.in-Some.is)
    (next_some plan c.in-Some.it old c.in_ok-node-in-Some.node new c.in_ok-node-in-Some.ensures.file (c.in_ok-node-in-Some.ensures.node plan read) c.in_ok-push-in-Some.ensures.items)

pub returns-in-None-clause-graph : goal.returns-in-None-clause-graph
returns-in-None-clause-graph c = λ plan read. subst (λ e. IsNextNode plan e c.args.nodes.now.items c.args.nodes.now.items) (sym c.in-None.is) (next_none plan c.args.nodes.now.items)
