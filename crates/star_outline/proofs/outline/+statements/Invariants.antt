use Rattle.std.proofs.Common.{◌≡◌, drop}
use Rattle.star_outline.specs.Outlines.{and, in_arms, in_statements}
use Rattle.star_outline.proofs.outline.+statements.Given as goal

abbrev pub invariant-find_in_statements-loop-statement : goal.invariant-find_in_statements-loop-statement
invariant-find_in_statements-loop-statement l = and l.found (in_statements (drop l.statement-index l.statements)) ≡ and l.fn.found (in_statements l.statements)

abbrev pub invariant-find_in_arms-loop-arm : goal.invariant-find_in_arms-loop-arm
invariant-find_in_arms-loop-arm l = and l.found (in_arms (drop l.arm-index l.arms)) ≡ and l.fn.found (in_arms l.arms)
