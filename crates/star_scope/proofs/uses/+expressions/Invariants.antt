use Rattle.std.proofs.Common.{take}
use Rattle.star_scope.specs.ResolvedNames.{Places}
use Rattle.star_scope.specs.Uses.{all_uses, default_uses, in_argument, in_clause, in_entry, in_expression, in_target}
use Rattle.star_scope.proofs.uses.+expressions.Given as goal

abbrev pub invariant-place_expressions-loop-expression : goal.invariant-place_expressions-loop-expression
invariant-place_expressions-loop-expression l = Places l.scope (all_uses in_expression (take l.expression-index l.expressions) l.chain) l.fn.placed l.placed

abbrev pub invariant-place_entries-loop-entry : goal.invariant-place_entries-loop-entry
invariant-place_entries-loop-entry l = Places l.scope (all_uses in_entry (take l.entry-index l.entries) l.chain) l.fn.placed l.placed

abbrev pub invariant-place_arguments-loop-argument : goal.invariant-place_arguments-loop-argument
invariant-place_arguments-loop-argument l = Places l.scope (all_uses in_argument (take l.argument-index l.arguments) l.chain) l.fn.placed l.placed

abbrev pub invariant-place_more-loop-clause : goal.invariant-place_more-loop-clause
invariant-place_more-loop-clause l = Places l.scope (all_uses in_clause (take l.clause-index l.clauses) l.chain) l.fn.placed l.placed

abbrev pub invariant-place_defaults-loop-parameter : goal.invariant-place_defaults-loop-parameter
invariant-place_defaults-loop-parameter l = Places l.scope (all_uses default_uses (take l.parameter-index l.parameters) l.chain) l.fn.placed l.placed

abbrev pub invariant-place_targets-loop-target : goal.invariant-place_targets-loop-target
invariant-place_targets-loop-target l = Places l.scope (all_uses in_target (take l.target-index l.targets) l.chain) l.fn.placed l.placed
