use Rattle.std.proofs.Common.{◌≡◌, drop}
use Rattle.star_scope.specs.Faults.{first_from}
use Rattle.star_scope.specs.Placement.{in_arms, in_statements}
use Rattle.star_scope.proofs.placement.+placement.Given as goal

abbrev pub invariant-in_statements-loop-statement : goal.invariant-in_statements-loop-statement
invariant-in_statements-loop-statement l = first_from l.found (in_statements (drop l.statement-index l.statements) l.here) ≡ first_from l.fn.found (in_statements l.statements l.here)

abbrev pub invariant-in_arms-loop-arm : goal.invariant-in_arms-loop-arm
invariant-in_arms-loop-arm l = first_from l.found (in_arms (drop l.arm-index l.arms) l.here) ≡ first_from l.fn.found (in_arms l.arms l.here)
