use Rattle.std.proofs.Common.{◌≡◌, drop}
use Rattle.star_outline.specs.Outlines.{and, in_argument, in_clause, in_each, in_entry, in_expressions, in_parameters, in_target}
use Rattle.star_outline.proofs.outline.+expressions.Given as goal

abbrev pub invariant-find_in_expressions-loop-expression : goal.invariant-find_in_expressions-loop-expression
invariant-find_in_expressions-loop-expression l = and l.found (in_expressions (drop l.expression-index l.expressions)) ≡ and l.fn.found (in_expressions l.expressions)

abbrev pub invariant-find_in_entries-loop-entry : goal.invariant-find_in_entries-loop-entry
invariant-find_in_entries-loop-entry l = and l.found ((in_each in_entry) (drop l.entry-index l.entries)) ≡ and l.fn.found ((in_each in_entry) l.entries)

abbrev pub invariant-find_in_arguments-loop-argument : goal.invariant-find_in_arguments-loop-argument
invariant-find_in_arguments-loop-argument l = and l.found ((in_each in_argument) (drop l.argument-index l.arguments)) ≡ and l.fn.found ((in_each in_argument) l.arguments)

abbrev pub invariant-find_in_parameters-loop-parameter : goal.invariant-find_in_parameters-loop-parameter
invariant-find_in_parameters-loop-parameter l = and l.found (in_parameters (drop l.parameter-index l.parameters)) ≡ and l.fn.found (in_parameters l.parameters)

abbrev pub invariant-find_in_targets-loop-target : goal.invariant-find_in_targets-loop-target
invariant-find_in_targets-loop-target l = and l.found ((in_each in_target) (drop l.target-index l.targets)) ≡ and l.fn.found ((in_each in_target) l.targets)

abbrev pub invariant-find_in_more-loop-clause : goal.invariant-find_in_more-loop-clause
invariant-find_in_more-loop-clause l = and l.found ((in_each in_clause) (drop l.clause-index l.clauses)) ≡ and l.fn.found ((in_each in_clause) l.clauses)
