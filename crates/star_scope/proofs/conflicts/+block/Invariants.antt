use Rattle.std.proofs.Common.{take}
use Rattle.star_scope.specs.Bound.{Binds}
use Rattle.star_scope.specs.Conflicts.{arms_bindings, statements_bindings}
use Rattle.star_scope.proofs.conflicts.+block.Given as goal

abbrev pub invariant-bind_statements-loop-statement : goal.invariant-bind_statements-loop-statement
invariant-bind_statements-loop-statement l = Binds (statements_bindings (take l.statement-index l.statements)) l.fn.bound l.bound

abbrev pub invariant-bind_arms-loop-arm : goal.invariant-bind_arms-loop-arm
invariant-bind_arms-loop-arm l = Binds (arms_bindings (take l.arm-index l.arms)) l.fn.bound l.bound
