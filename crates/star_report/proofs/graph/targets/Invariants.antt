use Rattle.std.proofs.Common.{◌≡◌, take}
use Rattle.star_report.specs.Graph as spec
use Rattle.star_report.proofs.graph.targets.Given as goal

abbrev pub invariant-loop-load : goal.invariant-loop-load
invariant-loop-load l = l.files.keys ≡ spec.targets (take l.load-index l.loads)
