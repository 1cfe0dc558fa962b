use Rattle.std.proofs.Common.{length, map}
use Rattle.star_reading.specs.Readings.{InReadPlans}
use Rattle.star_report.specs.Drawn.{AreNodesWithin, IsGraphBelow, node_view}
use Rattle.star_report.specs.Table.{IsTable}
use Rattle.star_report.proofs.graph.nodes_of.Given as goal

abbrev pub invariant-loop-entry : goal.invariant-loop-entry
invariant-loop-entry l = record {
  graph : InReadPlans l.reads.all.items (λ plan. IsTable plan l.table → IsGraphBelow plan l.entry-index (map node_view l.nodes.items));
  within : AreNodesWithin (length l.reads.all.items) l.nodes.items;
}
