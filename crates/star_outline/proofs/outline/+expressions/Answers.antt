use Rattle.std.proofs.Common.{rules, refl, ap, sym, ◌∙◌}
use Rattle.star_tree.specs.declared.tree.Argument.TheOpen as tree
use Rattle.star_tree.specs.declared.tree.Expression.TheVariants as v
use Rattle.star_outline.specs.Outlines.{Answer, and, comprehension, definition, in_argument, in_clause, in_clauses, in_each, in_entry, in_expression, in_expressions, in_optional, in_parameter, in_parameters, in_target}
use Rattle.star_outline.proofs.OutlineLevels.{and_nothing, expression_at, found_both, found_done, found_four, found_one, found_three, found_turn, of_Default, of_For, of_If, of_Index, of_argument, of_display, of_one, of_others, of_targets, of_two}
use Rattle.star_outline.proofs.outline.+expressions.Goals as goal

pub find_in_expressions-loop-expression-preserved : goal.find_in_expressions-loop-expression-preserved
find_in_expressions-loop-expression-preserved t c =
    found_turn in_expression in_expressions (λ x xs. refl) c.args.expressions.now c.loop-expression.expression-index c.expression-item.result
    c.loop-expression.found c.find_in_expression.new.found _ c.loop-expression-test.true c.expression-item.is c.in_ok-find_in_expression.ensures c.loop-expression.invariant

pub find_in_expressions-returns : goal.find_in_expressions-returns
find_in_expressions-returns t c = found_done in_expressions c.args.expressions.now c.loop-expression.expression-index c.loop-expression.found _ refl c.loop-expression-test.false c.loop-expression.invariant

pub find_in_entries-loop-entry-preserved : goal.find_in_entries-loop-entry-preserved
find_in_entries-loop-entry-preserved t c =
    found_turn in_entry (in_each in_entry) (λ x xs. refl) c.args.entries.now c.loop-entry.entry-index c.entry-item.result
    c.loop-entry.found c.find_in_entry.new.found _ c.loop-entry-test.true c.entry-item.is c.in_ok-find_in_entry.ensures c.loop-entry.invariant

pub find_in_entries-returns : goal.find_in_entries-returns
find_in_entries-returns t c = found_done (in_each in_entry) c.args.entries.now c.loop-entry.entry-index c.loop-entry.found _ refl c.loop-entry-test.false c.loop-entry.invariant

pub find_in_arguments-loop-argument-preserved : goal.find_in_arguments-loop-argument-preserved
find_in_arguments-loop-argument-preserved t c =
    found_turn in_argument (in_each in_argument) (λ x xs. refl) c.args.arguments.now c.loop-argument.argument-index c.argument-item.result
    c.loop-argument.found c.find_in_argument.new.found _ c.loop-argument-test.true c.argument-item.is c.in_ok-find_in_argument.ensures c.loop-argument.invariant

pub find_in_arguments-returns : goal.find_in_arguments-returns
find_in_arguments-returns t c = found_done (in_each in_argument) c.args.arguments.now c.loop-argument.argument-index c.loop-argument.found _ refl c.loop-argument-test.false c.loop-argument.invariant

pub find_in_parameters-loop-parameter-preserved : goal.find_in_parameters-loop-parameter-preserved
find_in_parameters-loop-parameter-preserved t c =
    found_turn in_parameter in_parameters (λ x xs. refl) c.args.parameters.now c.loop-parameter.parameter-index c.parameter-item.result
    c.loop-parameter.found c.find_in_parameter.new.found _ c.loop-parameter-test.true c.parameter-item.is c.in_ok-find_in_parameter.ensures c.loop-parameter.invariant

pub find_in_parameters-returns : goal.find_in_parameters-returns
find_in_parameters-returns t c = found_done in_parameters c.args.parameters.now c.loop-parameter.parameter-index c.loop-parameter.found _ refl c.loop-parameter-test.false c.loop-parameter.invariant

pub find_in_targets-loop-target-preserved : goal.find_in_targets-loop-target-preserved
find_in_targets-loop-target-preserved t c =
    found_turn in_target (in_each in_target) (λ x xs. refl) c.args.targets.now c.loop-target.target-index c.target-item.result
    c.loop-target.found c.find_in_target.new.found _ c.loop-target-test.true c.target-item.is c.in_ok-find_in_target.ensures c.loop-target.invariant

pub find_in_targets-returns : goal.find_in_targets-returns
find_in_targets-returns t c = found_done (in_each in_target) c.args.targets.now c.loop-target.target-index c.loop-target.found _ refl c.loop-target-test.false c.loop-target.invariant

pub find_in_more-loop-clause-preserved : goal.find_in_more-loop-clause-preserved
find_in_more-loop-clause-preserved t c =
    found_turn in_clause (in_each in_clause) (λ x xs. refl) c.args.clauses.now c.loop-clause.clause-index c.clause-item.result
    c.loop-clause.found c.find_in_clause.new.found _ c.loop-clause-test.true c.clause-item.is c.in_ok-find_in_clause.ensures c.loop-clause.invariant

pub find_in_more-returns : goal.find_in_more-returns
find_in_more-returns t c = found_done (in_each in_clause) c.args.clauses.now c.loop-clause.clause-index c.loop-clause.found _ refl c.loop-clause-test.false c.loop-clause.invariant

-- ---- by the form

pub find_in_expression-returns-in_ok-find_in_expressions-in-Tuple :
    goal.find_in_expression-returns-in_ok-find_in_expressions-in-Tuple
find_in_expression-returns-in_ok-find_in_expressions-in-Tuple t c =
    found_one (in_expressions c.in-Tuple.parts) (in_expression c.args.expression.now) c.args.found.now _ (of_display _ _ c.in-Tuple.is) (search rules)

pub find_in_expression-returns-in_ok-find_in_entries-in-Dict :
    goal.find_in_expression-returns-in_ok-find_in_entries-in-Dict
find_in_expression-returns-in_ok-find_in_entries-in-Dict t c =
    found_one (in_each in_entry c.in-Dict.entries) (in_expression c.args.expression.now) c.args.found.now _
    (expression_at _ (tree.Dict c.in-Dict.entries) (c.in-Dict.is ∙ sym (v.rolls-Dict c.in-Dict.entries))) (search rules)

pub find_in_expression-returns-in_ok-find_in_clauses-in-ListComprehension :
    goal.find_in_expression-returns-in_ok-find_in_clauses-in-ListComprehension
find_in_expression-returns-in_ok-find_in_clauses-in-ListComprehension t c =
    let k = c.in-ListComprehension in
    found_three (comprehension k.position.token k.clauses) (in_expression k.element) (in_clauses k.clauses) (in_expression c.args.expression.now) c.args.found.now
    c.add_comprehension.new.found c.find_in_expression.new.found c.find_in_clauses.new.found
    (expression_at _ (tree.ListComprehension k.position k.element k.clauses) (k.is ∙ sym (v.rolls-ListComprehension k.position k.element k.clauses))) (search rules) (search rules) (search rules)

pub find_in_expression-returns-in_ok-find_in_clauses-in-DictComprehension :
    goal.find_in_expression-returns-in_ok-find_in_clauses-in-DictComprehension
find_in_expression-returns-in_ok-find_in_clauses-in-DictComprehension t c =
    let k = c.in-DictComprehension in
    found_three (comprehension k.position.token k.clauses) (in_entry k.entry) (in_clauses k.clauses) (in_expression c.args.expression.now) c.args.found.now
    c.add_comprehension-in-DictComprehension.new.found c.find_in_entry.new.found c.find_in_clauses-in-DictComprehension.new.found
    (expression_at _ (tree.DictComprehension k.position k.entry k.clauses) (k.is ∙ sym (v.rolls-DictComprehension k.position k.entry k.clauses))) (search rules) (search rules) (search rules)

pub find_in_expression-returns-in_ok-find_in_expression-in-Unary :
    goal.find_in_expression-returns-in_ok-find_in_expression-in-Unary
find_in_expression-returns-in_ok-find_in_expression-in-Unary t c =
    found_one (in_expression c.in-Unary.value) (in_expression c.args.expression.now) c.args.found.now _ (of_one _ _ c.in-Unary.is) (search rules)

pub find_in_expression-returns-in_ok-find_in_expression-in-Binary-2 :
    goal.find_in_expression-returns-in_ok-find_in_expression-in-Binary-2
find_in_expression-returns-in_ok-find_in_expression-in-Binary-2 t c =
    found_both (in_expression c.in-Binary.left) (in_expression c.in-Binary.right) (in_expression c.args.expression.now) c.args.found.now
    c.find_in_expression-in-Binary.new.found c.find_in_expression-in-Binary-2.new.found (of_two _ _ _ c.in-Binary.is) (search rules) (search rules)

pub find_in_expression-returns-in_ok-find_in_expression-in-Conditional-3 :
    goal.find_in_expression-returns-in_ok-find_in_expression-in-Conditional-3
find_in_expression-returns-in_ok-find_in_expression-in-Conditional-3 t c =
    let k = c.in-Conditional in
    found_three (in_expression k.condition) (in_expression k.chosen) (in_expression k.otherwise) (in_expression c.args.expression.now) c.args.found.now
    c.find_in_expression-in-Conditional.new.found c.find_in_expression-in-Conditional-2.new.found c.find_in_expression-in-Conditional-3.new.found
    (expression_at _ (tree.Conditional k.condition k.chosen k.otherwise) (k.is ∙ sym (v.rolls-Conditional k.condition k.chosen k.otherwise))) (search rules) (search rules) (search rules)

pub find_in_expression-returns-in_ok-find_in_expression-in-Lambda :
    goal.find_in_expression-returns-in_ok-find_in_expression-in-Lambda
find_in_expression-returns-in_ok-find_in_expression-in-Lambda t c =
    let k = c.in-Lambda in
    found_three (definition k.position.token k.parameters (Answer k.body)) (in_parameters k.parameters) (in_expression k.body) (in_expression c.args.expression.now) c.args.found.now
    c.add_definition.new.found c.find_in_parameters.new.found c.find_in_expression-in-Lambda.new.found
    (expression_at _ (tree.Lambda k.position k.parameters k.body) (k.is ∙ sym (v.rolls-Lambda k.position k.parameters k.body))) (search rules) (search rules) (search rules)

pub find_in_expression-returns-in_ok-find_in_arguments-in-Call :
    goal.find_in_expression-returns-in_ok-find_in_arguments-in-Call
find_in_expression-returns-in_ok-find_in_arguments-in-Call t c =
    let k = c.in-Call in
    found_both (in_expression k.function) (in_each in_argument k.arguments) (in_expression c.args.expression.now) c.args.found.now c.find_in_expression-in-Call.new.found c.find_in_arguments.new.found
    (expression_at _ (tree.Call k.function k.arguments) (k.is ∙ sym (v.rolls-Call k.function k.arguments))) (search rules) (search rules)

pub find_in_expression-returns-in_ok-find_in_optional-in-Slice-3 :
    goal.find_in_expression-returns-in_ok-find_in_optional-in-Slice-3
find_in_expression-returns-in_ok-find_in_optional-in-Slice-3 t c =
    let k = c.in-Slice in
    found_four (in_expression k.value) (in_optional k.start) (in_optional k.stop) (in_optional k.stride) (in_expression c.args.expression.now) c.args.found.now
    c.find_in_expression-in-Slice.new.found c.find_in_optional.new.found c.find_in_optional-in-Slice.new.found c.find_in_optional-in-Slice-2.new.found
    (expression_at _ (tree.Slice k.value k.start k.stop k.stride) (k.is ∙ sym (v.rolls-Slice k.value k.start k.stop k.stride))) (search rules) (search rules) (search rules) (search rules)

pub find_in_argument-returns :
    goal.find_in_argument-returns
find_in_argument-returns t c =
    found_one (in_expression c.in-Positional.value) (in_argument c.args.argument.now) c.args.found.now _ (of_argument _ _ c.in-Positional.is) (search rules)

pub find_in_parameter-returns-in_ok-find_in_expression :
    goal.find_in_parameter-returns-in_ok-find_in_expression
find_in_parameter-returns-in_ok-find_in_expression t c =
    found_one (in_expression c.in-Default.default) (in_parameter c.args.parameter.now) c.args.found.now _ (ap in_parameter c.in-Default.is ∙ of_Default _ c.in-Default.default) (search rules)

pub find_in_parameter-returns-in_default :
    goal.find_in_parameter-returns-in_default
find_in_parameter-returns-in_default t c =
    sym (ap (and c.args.found.now) (of_others c.args.parameter.now c.in_default.not-Default) ∙ and_nothing c.args.found.now)

pub find_in_target-returns-in_ok-find_in_expression-in-Index-2 :
    goal.find_in_target-returns-in_ok-find_in_expression-in-Index-2
find_in_target-returns-in_ok-find_in_expression-in-Index-2 t c =
    let k = c.in-Index in
    found_both (in_expression k.value) (in_expression k.index) (in_target c.args.target.now) c.args.found.now c.find_in_expression.new.found c.find_in_expression-in-Index.new.found
    (ap in_target k.is ∙ of_Index k.value k.index) (search rules) (search rules)

pub find_in_target-returns-in_ok-find_in_targets-in-Tuple :
    goal.find_in_target-returns-in_ok-find_in_targets-in-Tuple
find_in_target-returns-in_ok-find_in_targets-in-Tuple t c =
    found_one (in_each in_target c.in-Tuple.targets) (in_target c.args.target.now) c.args.found.now _ (of_targets _ _ c.in-Tuple.is) (search rules)

pub find_in_clause-returns-in_ok-find_in_expression-in-For :
    goal.find_in_clause-returns-in_ok-find_in_expression-in-For
find_in_clause-returns-in_ok-find_in_expression-in-For t c =
    found_both (in_target c.in-For.target) (in_expression c.in-For.iterable) (in_clause c.args.clause.now) c.args.found.now c.find_in_target.new.found c.find_in_expression.new.found
    (ap in_clause c.in-For.is ∙ of_For _ _) (search rules) (search rules)

pub find_in_clause-returns-in_ok-find_in_expression-in-If :
    goal.find_in_clause-returns-in_ok-find_in_expression-in-If
find_in_clause-returns-in_ok-find_in_expression-in-If t c =
    found_one (in_expression c.in-If.condition) (in_clause c.args.clause.now) c.args.found.now _ (ap in_clause c.in-If.is ∙ of_If _) (search rules)
