use Rattle.std.proofs.Common.{◌≡◌, length, map, take}
use Rattle.star_report.specs.Drawn.{EndWithin, SayCycles}
use Rattle.star_report.proofs.graph.edges_of.Given as goal

abbrev pub invariant-loop-to : goal.invariant-loop-to
invariant-loop-to l = record {
  targets : map (λ e. e.to) l.edges.items ≡ take l.to-index l.to-items;
  cycles : SayCycles l.reads.all.items l.it l.edges.items;
  within : EndWithin (length l.reads.all.items) l.edges.items;
}
