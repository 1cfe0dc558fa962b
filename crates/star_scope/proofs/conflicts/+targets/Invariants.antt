use Rattle.std.proofs.Common.{take}
use Rattle.star_scope.specs.Bound.{Binds}
use Rattle.star_scope.specs.Conflicts.{targets_bindings}
use Rattle.star_scope.proofs.conflicts.+targets.Given as goal

abbrev pub invariant-bind_targets-loop-target : goal.invariant-bind_targets-loop-target
invariant-bind_targets-loop-target l = Binds (targets_bindings (take l.target-index l.targets)) l.fn.bound l.bound
