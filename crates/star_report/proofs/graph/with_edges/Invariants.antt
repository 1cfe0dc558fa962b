use Rattle.std.proofs.Common.{◌≡◌, ◌++◌, take}
use Rattle.std.specs.Prelude.{flat_map}
use Rattle.star_report.specs.Graph.{edge_line}
use Rattle.star_report.proofs.graph.with_edges.Given as goal

abbrev pub invariant-loop-edge : goal.invariant-loop-edge
invariant-loop-edge l = l.text.items ≡ l.fn.text.items ++ flat_map (edge_line l.files l.node.file) (take l.edge-index l.node.edges.items)
