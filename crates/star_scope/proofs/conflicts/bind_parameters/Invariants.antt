use Rattle.std.proofs.Common.{take}
use Rattle.star_scope.specs.Bound.{Binds}
use Rattle.star_scope.specs.Conflicts.{parameter_bindings}
use Rattle.star_scope.proofs.conflicts.bind_parameters.Given as goal

abbrev pub invariant-loop-parameter : goal.invariant-loop-parameter
invariant-loop-parameter l = Binds (parameter_bindings (take l.parameter-index l.parameters)) l.fn.bound l.bound
