use Rattle.std.proofs.Common.{◌≡◌, ◌++◌, map, take}
use Rattle.std.specs.Prelude.{flat_map}
use Rattle.star_report.specs.Drawn.{node_view}
use Rattle.star_report.specs.Graph.{node_line}
use Rattle.star_report.proofs.graph.with_nodes.Given as goal

abbrev pub invariant-loop-node : goal.invariant-loop-node
invariant-loop-node l = l.text.items ≡ l.fn.text.items ++ flat_map (node_line l.files) (map node_view (take l.node-index l.nodes))
