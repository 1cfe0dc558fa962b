use Rattle.std.proofs.Common.{◌≡◌, drop}
use Rattle.std.specs.List.{flat_map}
use Rattle.star_scope.specs.Faults.{first_from}
use Rattle.star_scope.specs.Loads.{private_fault}
use Rattle.star_scope.proofs.loads.private_faults.Given as goal

abbrev pub invariant-loop-name : goal.invariant-loop-name
invariant-loop-name l = first_from l.found (flat_map private_fault (drop l.name-index l.names)) ≡ first_from l.fn.found (flat_map private_fault l.names)
