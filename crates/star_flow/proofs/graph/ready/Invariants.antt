use Rattle.std.proofs.Common.{[]}
use Rattle.std.specs.Prelude.{All}
use Rattle.star_flow.specs.Schedules.{HasAll, IsReadyOf}
use Rattle.star_flow.proofs.graph.ready.Given as goal

abbrev pub invariant-loop-n : goal.invariant-loop-n
invariant-loop-n l = record {
  whole : All (HasAll l.missing) l.ready.items;
  among : IsReadyOf [] l.files l.ready.items;
}
