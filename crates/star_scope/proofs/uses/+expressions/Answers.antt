use Rattle.std.proofs.Common.{[], ◌++◌, ap, sym, ◌∙◌}
use Rattle.std.specs.Option.{option_map}
use Rattle.star_tree.specs.declared.tree.Clauses.{out-Clauses}
use Rattle.star_tree.specs.declared.tree.Argument.TheOpen as tree
use Rattle.star_tree.specs.declared.tree.Expression.TheVariants as e
use Rattle.star_scope.specs.Uses.{all_uses, default_uses, in_argument, in_clause, in_clauses, in_entry, in_expression, in_target, maybe_use, parameter_name_uses}
use Rattle.star_scope.proofs.Placing.{place_as, place_both, place_defined, place_done, place_none, place_part, place_third, place_turn}
use Rattle.star_scope.proofs.UseForms.{of, of_entry, of_first, of_for, of_index, of_lambda, of_no_default, of_pair, of_plain, of_rest}
use Rattle.star_scope.proofs.uses.+expressions.Goals as goal

pub place_expressions-loop-expression-init : goal.place_expressions-loop-expression-init
place_expressions-loop-expression-init t c = place_none c.args.scope.now c.args.placed.now

pub place_expressions-loop-expression-preserved : goal.place_expressions-loop-expression-preserved
place_expressions-loop-expression-preserved t c =
    place_turn in_expression c.args.scope.now c.args.chain.now c.args.expressions.now c.loop-expression.expression-index c.expression-item.result
    c.args.placed.now c.loop-expression.placed c.place_expression.new.placed c.loop-expression-test.true c.expression-item.is c.loop-expression.invariant c.in_ok-place_expression.ensures

pub place_expressions-returns : goal.place_expressions-returns
place_expressions-returns t c =
    place_done in_expression c.args.scope.now c.args.chain.now c.args.expressions.now c.loop-expression.expression-index c.args.placed.now c.loop-expression.placed
    c.loop-expression-test.false c.loop-expression.auto.expression-index-end c.loop-expression.invariant

pub place_entries-loop-entry-init : goal.place_entries-loop-entry-init
place_entries-loop-entry-init t c = place_none c.args.scope.now c.args.placed.now

pub place_entries-loop-entry-preserved : goal.place_entries-loop-entry-preserved
place_entries-loop-entry-preserved t c =
    place_turn in_entry c.args.scope.now c.args.chain.now c.args.entries.now c.loop-entry.entry-index c.entry-item.result
    c.args.placed.now c.loop-entry.placed c.place_entry.new.placed c.loop-entry-test.true c.entry-item.is c.loop-entry.invariant c.in_ok-place_entry.ensures

pub place_entries-returns : goal.place_entries-returns
place_entries-returns t c =
    place_done in_entry c.args.scope.now c.args.chain.now c.args.entries.now c.loop-entry.entry-index c.args.placed.now c.loop-entry.placed
    c.loop-entry-test.false c.loop-entry.auto.entry-index-end c.loop-entry.invariant

pub place_arguments-loop-argument-init : goal.place_arguments-loop-argument-init
place_arguments-loop-argument-init t c = place_none c.args.scope.now c.args.placed.now

pub place_arguments-loop-argument-preserved : goal.place_arguments-loop-argument-preserved
place_arguments-loop-argument-preserved t c =
    place_turn in_argument c.args.scope.now c.args.chain.now c.args.arguments.now c.loop-argument.argument-index c.argument-item.result
    c.args.placed.now c.loop-argument.placed c.place_argument.new.placed c.loop-argument-test.true c.argument-item.is c.loop-argument.invariant c.in_ok-place_argument.ensures

pub place_arguments-returns : goal.place_arguments-returns
place_arguments-returns t c =
    place_done in_argument c.args.scope.now c.args.chain.now c.args.arguments.now c.loop-argument.argument-index c.args.placed.now c.loop-argument.placed
    c.loop-argument-test.false c.loop-argument.auto.argument-index-end c.loop-argument.invariant

pub place_more-loop-clause-init : goal.place_more-loop-clause-init
place_more-loop-clause-init t c = place_none c.args.scope.now c.args.placed.now

pub place_more-loop-clause-preserved : goal.place_more-loop-clause-preserved
place_more-loop-clause-preserved t c =
    place_turn in_clause c.args.scope.now c.args.chain.now c.args.clauses.now c.loop-clause.clause-index c.clause-item.result
    c.args.placed.now c.loop-clause.placed c.place_clause.new.placed c.loop-clause-test.true c.clause-item.is c.loop-clause.invariant c.in_ok-place_clause.ensures

pub place_more-returns : goal.place_more-returns
place_more-returns t c =
    place_done in_clause c.args.scope.now c.args.chain.now c.args.clauses.now c.loop-clause.clause-index c.args.placed.now c.loop-clause.placed
    c.loop-clause-test.false c.loop-clause.auto.clause-index-end c.loop-clause.invariant

pub place_defaults-loop-parameter-init : goal.place_defaults-loop-parameter-init
place_defaults-loop-parameter-init t c = place_none c.args.scope.now c.args.placed.now

pub place_defaults-loop-parameter-preserved : goal.place_defaults-loop-parameter-preserved
place_defaults-loop-parameter-preserved t c =
    place_turn default_uses c.args.scope.now c.args.chain.now c.args.parameters.now c.loop-parameter.parameter-index c.parameter-item.result
    c.args.placed.now c.loop-parameter.placed c.place_default.new.placed c.loop-parameter-test.true c.parameter-item.is c.loop-parameter.invariant c.in_ok-place_default.ensures

pub place_defaults-returns : goal.place_defaults-returns
place_defaults-returns t c =
    place_done default_uses c.args.scope.now c.args.chain.now c.args.parameters.now c.loop-parameter.parameter-index c.args.placed.now c.loop-parameter.placed
    c.loop-parameter-test.false c.loop-parameter.auto.parameter-index-end c.loop-parameter.invariant

pub place_targets-loop-target-init : goal.place_targets-loop-target-init
place_targets-loop-target-init t c = place_none c.args.scope.now c.args.placed.now

pub place_targets-loop-target-preserved : goal.place_targets-loop-target-preserved
place_targets-loop-target-preserved t c =
    place_turn in_target c.args.scope.now c.args.chain.now c.args.targets.now c.loop-target.target-index c.target-item.result
    c.args.placed.now c.loop-target.placed c.place_target.new.placed c.loop-target-test.true c.target-item.is c.loop-target.invariant c.in_ok-place_target.ensures

pub place_targets-returns : goal.place_targets-returns
place_targets-returns t c =
    place_done in_target c.args.scope.now c.args.chain.now c.args.targets.now c.loop-target.target-index c.args.placed.now c.loop-target.placed
    c.loop-target-test.false c.loop-target.auto.target-index-end c.loop-target.invariant

pub place_clauses-returns : goal.place_clauses-returns
place_clauses-returns t c =
    let scope = c.args.scope.now in
    let chain = c.args.chain.now in
    let inner = c.args.inner.now in
    let cs = c.args.clauses.now in
    let a = c.args.placed.now in
    let b = c.place_expression.new.placed in
    let d = c.place_target.new.placed in
    let z = c.place_more.new.placed in
    place_as scope (in_expression (out-Clauses cs).iterable chain ++ (in_target (out-Clauses cs).target inner ++ all_uses in_clause (out-Clauses cs).more inner)) _ a z
    (ap (λ us. us ++ (in_clauses cs).rest inner) (of_first cs chain) ∙ ap (λ us. in_expression (out-Clauses cs).iterable chain ++ us) (of_rest cs inner))
    (place_both scope _ _ a b z (place_part (λ x. in_expression x chain) scope _ _ a b c.get.ensures c.in_ok-place_expression.ensures)
    (place_both scope _ _ b d z c.in_ok-place_target.ensures (place_part (λ xs. all_uses in_clause xs inner) scope _ _ d z c.as_slice.ensures c.in_ok-place_more.ensures)))

pub place_clause-returns-in_ok-place_expression-in-For : goal.place_clause-returns-in_ok-place_expression-in-For
place_clause-returns-in_ok-place_expression-in-For t c =
    let scope = c.args.scope.now in
    let chain = c.args.chain.now in
    place_as scope _ _ c.args.placed.now c.place_expression.new.placed (of_for c.args.clause.now c.in-For.target c.in-For.iterable c.in-For.is chain)
    (place_both scope _ _ c.args.placed.now c.place_target.new.placed c.place_expression.new.placed c.in_ok-place_target-in-For.ensures c.in_ok-place_expression-in-For.ensures)

pub place_maybe-returns-in-None : goal.place_maybe-returns-in-None
place_maybe-returns-in-None t c =
    place_as c.args.scope.now [] _ c.args.placed.now c.args.placed.now (ap (λ o. maybe_use (option_map in_expression o) c.args.chain.now) c.in-None.is)
    (place_none c.args.scope.now c.args.placed.now)

pub place_default-returns-in_default : goal.place_default-returns-in_default
place_default-returns-in_default t c =
    place_as c.args.scope.now [] _ c.args.placed.now c.args.placed.now (of_no_default c.args.parameter.now c.in_default.not-Default c.args.chain.now)
    (place_none c.args.scope.now c.args.placed.now)

pub place_entry-returns : goal.place_entry-returns
place_entry-returns t c =
    let scope = c.args.scope.now in
    let chain = c.args.chain.now in
    let a = c.args.placed.now in
    let b = c.place_expression.new.placed in
    let z = c.place_expression-2.new.placed in
    place_as scope _ _ a z (of_entry c.args.entry.now chain)
    (place_both scope _ _ a b z c.in_ok-place_expression.ensures c.in_ok-place_expression-2.ensures)

pub place_target-returns-in_ok-place_expression-in-Index-2 : goal.place_target-returns-in_ok-place_expression-in-Index-2
place_target-returns-in_ok-place_expression-in-Index-2 t c =
    let scope = c.args.scope.now in
    let chain = c.args.chain.now in
    let a = c.args.placed.now in
    let b = c.place_expression.new.placed in
    let z = c.place_expression-in-Index.new.placed in
    place_as scope _ _ a z (of_index c.args.target.now c.in-Index.value c.in-Index.index c.in-Index.is chain)
    (place_both scope _ _ a b z (place_part (λ y. in_expression y chain) scope _ _ a b c.get.ensures c.in_ok-place_expression-in-Index.ensures)
    (place_part (λ y. in_expression y chain) scope _ _ b z c.get-in-Index.ensures c.in_ok-place_expression-in-Index-2.ensures))

pub place_expression-returns-in_ok-place_arguments-in-Call : goal.place_expression-returns-in_ok-place_arguments-in-Call
place_expression-returns-in_ok-place_arguments-in-Call t c =
    let scope = c.args.scope.now in
    let chain = c.args.chain.now in
    let a = c.args.placed.now in
    let x = c.args.expression.now in
    let b = c.place_expression-in-Call.new.placed in
    let z = c.place_arguments.new.placed in
    place_as scope _ _ a z (of x (tree.Call c.in-Call.function c.in-Call.arguments) chain (c.in-Call.is ∙ sym (e.rolls-Call c.in-Call.function c.in-Call.arguments)))
    (place_both scope _ _ a b z (place_part (λ y. in_expression y chain) scope _ _ a b c.get-in-Call.ensures c.in_ok-place_expression-in-Call.ensures)
    (place_part (λ ys. all_uses in_argument ys chain) scope _ _ b z c.as_slice-in-Call.ensures c.in_ok-place_arguments-in-Call.ensures))

pub place_expression-returns-in_ok-place_entry-in-DictComprehension : goal.place_expression-returns-in_ok-place_entry-in-DictComprehension
place_expression-returns-in_ok-place_entry-in-DictComprehension t c =
    let scope = c.args.scope.now in
    let chain = c.args.chain.now in
    let a = c.args.placed.now in
    let x = c.args.expression.now in
    let at = c.in-DictComprehension.position in
    let cs = c.in-DictComprehension.clauses in
    let inner = c.in_ok-inner-in-DictComprehension.inner in
    let b = c.place_clauses-in-DictComprehension.new.placed in
    let z = c.place_entry.new.placed in
    place_as scope _ _ a z (of x (tree.DictComprehension at c.in-DictComprehension.entry cs) chain (c.in-DictComprehension.is ∙ sym (e.rolls-DictComprehension at c.in-DictComprehension.entry cs)))
    (place_third scope _ _ _ a b z
    (place_part (λ k. (in_clauses cs).first chain ++ (in_clauses cs).rest k) scope inner _ a b c.in_ok-inner-in-DictComprehension.ensures
    (place_part (λ ds. (in_clauses ds).first chain ++ (in_clauses ds).rest inner) scope _ _ a b c.get-in-DictComprehension.ensures c.in_ok-place_clauses-in-DictComprehension.ensures))
    (place_part (λ k. in_entry c.in-DictComprehension.entry k) scope inner _ b z c.in_ok-inner-in-DictComprehension.ensures
    (place_part (λ y. in_entry y inner) scope _ _ b z c.get-in-DictComprehension-2.ensures c.in_ok-place_entry-in-DictComprehension.ensures)))

pub place_expression-returns-in_ok-place_expression-in-Binary-2 : goal.place_expression-returns-in_ok-place_expression-in-Binary-2
place_expression-returns-in_ok-place_expression-in-Binary-2 t c =
    let scope = c.args.scope.now in
    let chain = c.args.chain.now in
    let a = c.args.placed.now in
    let x = c.args.expression.now in
    let b = c.place_expression-in-Binary.new.placed in
    let z = c.place_expression-in-Binary-2.new.placed in
    place_as scope _ _ a z (of_pair x c.in-Binary.left c.in-Binary.right c.in-Binary.is chain)
    (place_both scope _ _ a b z (place_part (λ y. in_expression y chain) scope _ _ a b c.get-in-Binary.ensures c.in_ok-place_expression-in-Binary.ensures)
    (place_part (λ y. in_expression y chain) scope _ _ b z c.get-in-Binary-2.ensures c.in_ok-place_expression-in-Binary-2.ensures))

pub place_expression-returns-in_ok-place_expression-in-Conditional-3 : goal.place_expression-returns-in_ok-place_expression-in-Conditional-3
place_expression-returns-in_ok-place_expression-in-Conditional-3 t c =
    let scope = c.args.scope.now in
    let chain = c.args.chain.now in
    let a = c.args.placed.now in
    let x = c.args.expression.now in
    let b = c.place_expression-in-Conditional.new.placed in
    let d = c.place_expression-in-Conditional-2.new.placed in
    let z = c.place_expression-in-Conditional-3.new.placed in
    let l = tree.Conditional c.in-Conditional.condition c.in-Conditional.chosen c.in-Conditional.otherwise in
    place_as scope _ _ a z (of x l chain (c.in-Conditional.is ∙ sym (e.rolls-Conditional c.in-Conditional.condition c.in-Conditional.chosen c.in-Conditional.otherwise)))
    (place_both scope _ _ a b z (place_part (λ y. in_expression y chain) scope _ _ a b c.get-in-Conditional.ensures c.in_ok-place_expression-in-Conditional.ensures)
    (place_both scope _ _ b d z (place_part (λ y. in_expression y chain) scope _ _ b d c.get-in-Conditional-2.ensures c.in_ok-place_expression-in-Conditional-2.ensures)
    (place_part (λ y. in_expression y chain) scope _ _ d z c.get-in-Conditional-3.ensures c.in_ok-place_expression-in-Conditional-3.ensures)))

pub place_expression-returns-in_ok-place_expression-in-Lambda : goal.place_expression-returns-in_ok-place_expression-in-Lambda
place_expression-returns-in_ok-place_expression-in-Lambda t c =
    let scope = c.args.scope.now in
    let chain = c.args.chain.now in
    let a = c.args.placed.now in
    let x = c.args.expression.now in
    let at = c.in-Lambda.position in
    let ps = c.in-Lambda.parameters in
    let body = c.in-Lambda.body in
    let inner = c.in_ok-inner-in-Lambda.inner in
    let b = c.place_defaults.new.placed in
    let d = c.place_parameter_names.new.placed in
    let z = c.place_expression-in-Lambda.new.placed in
    place_as scope _ _ a z (of_lambda x at ps body c.in-Lambda.is chain)
    (place_defined scope at.token chain _ a z
    (place_both scope _ _ a b z (place_part (λ y. all_uses default_uses y chain) scope _ _ a b (c.as_slice-parameters.ensures ∙ c.get-in-Lambda.ensures) c.in_ok-place_defaults-in-Lambda.ensures)
    (place_part (λ k. all_uses parameter_name_uses ps k ++ in_expression body k) scope inner _ b z c.in_ok-inner-in-Lambda.ensures
    (place_both scope _ _ b d z (place_part (λ y. all_uses parameter_name_uses y inner) scope _ _ b d (c.as_slice-parameters.ensures ∙ c.get-in-Lambda.ensures) c.in_ok-place_parameter_names-in-Lambda.ensures)
    (place_part (λ y. in_expression y inner) scope _ _ d z c.get-in-Lambda-2.ensures c.in_ok-place_expression-in-Lambda.ensures)))))

pub place_expression-returns-in_ok-place_expression-in-ListComprehension : goal.place_expression-returns-in_ok-place_expression-in-ListComprehension
place_expression-returns-in_ok-place_expression-in-ListComprehension t c =
    let scope = c.args.scope.now in
    let chain = c.args.chain.now in
    let a = c.args.placed.now in
    let x = c.args.expression.now in
    let at = c.in-ListComprehension.position in
    let cs = c.in-ListComprehension.clauses in
    let inner = c.in_ok-inner-in-ListComprehension.inner in
    let b = c.place_clauses.new.placed in
    let z = c.place_expression.new.placed in
    place_as scope _ _ a z (of x (tree.ListComprehension at c.in-ListComprehension.element cs) chain (c.in-ListComprehension.is ∙ sym (e.rolls-ListComprehension at c.in-ListComprehension.element cs)))
    (place_third scope _ _ _ a b z
    (place_part (λ k. (in_clauses cs).first chain ++ (in_clauses cs).rest k) scope inner _ a b c.in_ok-inner-in-ListComprehension.ensures
    (place_part (λ ds. (in_clauses ds).first chain ++ (in_clauses ds).rest inner) scope _ _ a b c.get.ensures c.in_ok-place_clauses-in-ListComprehension.ensures))
    (place_part (λ k. in_expression c.in-ListComprehension.element k) scope inner _ b z c.in_ok-inner-in-ListComprehension.ensures
    (place_part (λ y. in_expression y inner) scope _ _ b z c.get-in-ListComprehension.ensures c.in_ok-place_expression-in-ListComprehension.ensures)))

pub place_expression-returns-in_ok-place_maybe-in-Slice-3 : goal.place_expression-returns-in_ok-place_maybe-in-Slice-3
place_expression-returns-in_ok-place_maybe-in-Slice-3 t c =
    let scope = c.args.scope.now in
    let chain = c.args.chain.now in
    let a = c.args.placed.now in
    let x = c.args.expression.now in
    let b = c.place_expression-in-Slice.new.placed in
    let d = c.place_maybe.new.placed in
    let f = c.place_maybe-in-Slice.new.placed in
    let z = c.place_maybe-in-Slice-2.new.placed in
    let l = tree.Slice c.in-Slice.value c.in-Slice.start c.in-Slice.stop c.in-Slice.stride in
    place_as scope _ _ a z (of x l chain (c.in-Slice.is ∙ sym (e.rolls-Slice c.in-Slice.value c.in-Slice.start c.in-Slice.stop c.in-Slice.stride)))
    (place_both scope _ _ a b z (place_part (λ y. in_expression y chain) scope _ _ a b c.get-in-Slice.ensures c.in_ok-place_expression-in-Slice.ensures)
    (place_both scope _ _ b d z c.in_ok-place_maybe-in-Slice.ensures
    (place_both scope _ _ d f z c.in_ok-place_maybe-in-Slice-2.ensures c.in_ok-place_maybe-in-Slice-3.ensures)))

pub place_expression-returns-in-Int : goal.place_expression-returns-in-Int
place_expression-returns-in-Int t c =
    place_as c.args.scope.now [] _ c.args.placed.now c.args.placed.now (of_plain c.args.expression.now c.in-Int.is c.args.chain.now)
    (place_none c.args.scope.now c.args.placed.now)

pub place_expression-returns-in-Int-2 : goal.place_expression-returns-in-Int-2
place_expression-returns-in-Int-2 t c =
    place_as c.args.scope.now [] _ c.args.placed.now c.args.placed.now (of_plain c.args.expression.now c.in-Int.is c.args.chain.now)
    (place_none c.args.scope.now c.args.placed.now)
