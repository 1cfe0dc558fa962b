use Rattle.std.proofs.Common.{take}
use Rattle.star_scope.specs.ResolvedNames.{Places}
use Rattle.star_scope.specs.Uses.{all_uses, in_arm, in_statement}
use Rattle.star_scope.proofs.uses.+statements.Given as goal

abbrev pub invariant-place_statements-loop-statement : goal.invariant-place_statements-loop-statement
invariant-place_statements-loop-statement l = Places l.scope (all_uses in_statement (take l.statement-index l.statements) l.chain) l.fn.placed l.placed

abbrev pub invariant-place_arms-loop-arm : goal.invariant-place_arms-loop-arm
invariant-place_arms-loop-arm l = Places l.scope (all_uses in_arm (take l.arm-index l.arms) l.chain) l.fn.placed l.placed
