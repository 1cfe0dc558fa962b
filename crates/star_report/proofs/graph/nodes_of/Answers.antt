use Rattle.std.proofs.Common.{◌≡◌, ◌∙◌, Some, ap, arith, length, map, sym}
use Rattle.std.proofs.lemmas.Option.{slice_get-get_or}
use Rattle.star_report.specs.Drawn.{node_view}
use Rattle.star_report.proofs.Drawings.{graph_all}
use Rattle.star_report.proofs.graph.nodes_of.Goals as goal

pub loop-entry-preserved : goal.loop-entry-preserved
loop-entry-preserved c =
    let table = c.args.table.now in
    let i = c.loop-entry.entry-index in
    let at = slice_get-get_or table i c.entry-item.result (omega (arith, c.loop-entry-test.true)) ∙ ap Some (sym c.entry-item.is) in
    record {
      graph = λ plan read is. c.in_ok-push_node.ensures.graph plan read table i is at (c.loop-entry.invariant.graph plan read is);
      within = c.in_ok-push_node.ensures.within c.loop-entry.invariant.within;
    }

pub returns-clause-graph : goal.returns-clause-graph
returns-clause-graph c = λ plan read is.
    let end : c.loop-entry.entry-index ≡ length c.args.table.now = omega (arith, c.loop-entry-test.false, c.loop-entry.auto.entry-index-end) in
    graph_all plan c.args.table.now c.loop-entry.entry-index (map node_view c.loop-entry.nodes.items) end is (c.loop-entry.invariant.graph plan read is)
