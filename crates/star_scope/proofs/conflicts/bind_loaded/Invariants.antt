use Rattle.std.proofs.Common.{take}
use Rattle.std.specs.List.{flat_map}
use Rattle.star_scope.specs.Bound.{Binds}
use Rattle.star_scope.specs.Conflicts.{loaded_binding}
use Rattle.star_scope.proofs.conflicts.bind_loaded.Given as goal

abbrev pub invariant-loop-name : goal.invariant-loop-name
invariant-loop-name l = Binds (flat_map loaded_binding (take l.name-index l.names)) l.fn.bound l.bound
