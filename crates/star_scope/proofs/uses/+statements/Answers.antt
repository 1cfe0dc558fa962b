use Rattle.std.proofs.Common.{rules, ◌≡◌, [], ◌++◌, sym, ◌∙◌}
use Rattle.star_tree.specs.declared.tree.Form.TheOpen as form
use Rattle.star_tree.specs.declared.tree.Form.TheVariants as v
use Rattle.star_scope.specs.Uses.{all_uses, default_uses, in_arm, in_statement, loaded_use, one_use, parameter_name_uses}
use Rattle.star_scope.proofs.Placing.{place_as, place_both, place_defined, place_done, place_none, place_part, place_turn}
use Rattle.star_scope.proofs.StatementForms.{arm_opened, of, of_def, of_load, statement_opened}
use Rattle.star_scope.proofs.uses.+statements.Goals as goal

pub place_statements-loop-statement-init : goal.place_statements-loop-statement-init
place_statements-loop-statement-init t c = place_none c.args.scope.now c.args.placed.now

pub place_statements-loop-statement-preserved : goal.place_statements-loop-statement-preserved
place_statements-loop-statement-preserved t c =
    place_turn in_statement c.args.scope.now c.args.chain.now c.args.statements.now c.loop-statement.statement-index c.statement-item.result
    c.args.placed.now c.loop-statement.placed c.place_form.new.placed c.loop-statement-test.true c.statement-item.is c.loop-statement.invariant (place_as c.args.scope.now _ _ c.loop-statement.placed c.place_form.new.placed (statement_opened c.statement-item.result c.args.chain.now) c.in_ok-place_form.ensures)

pub place_statements-returns : goal.place_statements-returns
place_statements-returns t c =
    place_done in_statement c.args.scope.now c.args.chain.now c.args.statements.now c.loop-statement.statement-index c.args.placed.now c.loop-statement.placed
    c.loop-statement-test.false c.loop-statement.auto.statement-index-end c.loop-statement.invariant

pub place_arms-loop-arm-init : goal.place_arms-loop-arm-init
place_arms-loop-arm-init t c = place_none c.args.scope.now c.args.placed.now

pub place_arms-loop-arm-preserved : goal.place_arms-loop-arm-preserved
place_arms-loop-arm-preserved t c =
    place_turn in_arm c.args.scope.now c.args.chain.now c.args.arms.now c.loop-arm.arm-index c.arm-item.result
    c.args.placed.now c.loop-arm.placed c.place_arm.new.placed c.loop-arm-test.true c.arm-item.is c.loop-arm.invariant c.in_ok-place_arm.ensures

pub place_arms-returns : goal.place_arms-returns
place_arms-returns t c =
    place_done in_arm c.args.scope.now c.args.chain.now c.args.arms.now c.loop-arm.arm-index c.args.placed.now c.loop-arm.placed
    c.loop-arm-test.false c.loop-arm.auto.arm-index-end c.loop-arm.invariant

pub place_form-returns : goal.place_form-returns
place_form-returns t c =
    let is : c.args.form.now ≡ v.Pass = search rules in
    place_as c.args.scope.now [] _ c.args.placed.now c.args.placed.now (of c.args.form.now form.Pass c.args.token c.args.chain.now (is ∙ sym v.rolls-Pass))
    (place_none c.args.scope.now c.args.placed.now)

pub place_form-returns-2 : goal.place_form-returns-2
place_form-returns-2 t c =
    let is : c.args.form.now ≡ v.Break = search rules in
    place_as c.args.scope.now [] _ c.args.placed.now c.args.placed.now (of c.args.form.now form.Break c.args.token c.args.chain.now (is ∙ sym v.rolls-Break))
    (place_none c.args.scope.now c.args.placed.now)

pub place_form-returns-3 : goal.place_form-returns-3
place_form-returns-3 t c =
    let is : c.args.form.now ≡ v.Continue = search rules in
    place_as c.args.scope.now [] _ c.args.placed.now c.args.placed.now (of c.args.form.now form.Continue c.args.token c.args.chain.now (is ∙ sym v.rolls-Continue))
    (place_none c.args.scope.now c.args.placed.now)

pub place_arm-returns : goal.place_arm-returns
place_arm-returns t c =
    let scope = c.args.scope.now in
    let chain = c.args.chain.now in
    let a = c.args.placed.now in
    let b = c.place_expression.new.placed in
    let z = c.place_statements.new.placed in
    place_as scope _ _ a z (arm_opened c.args.arm.now chain)
    (place_both scope _ _ a b z c.in_ok-place_expression.ensures
    (place_part (λ ys. all_uses in_statement ys chain) scope _ _ b z c.as_slice.ensures c.in_ok-place_statements.ensures))

pub place_form-returns-in_ok-place_expression-in-Augment : goal.place_form-returns-in_ok-place_expression-in-Augment
place_form-returns-in_ok-place_expression-in-Augment t c =
    let scope = c.args.scope.now in
    let chain = c.args.chain.now in
    let a = c.args.placed.now in
    let x = c.args.form.now in
    let b = c.place_target-in-Augment.new.placed in
    let z = c.place_expression-in-Augment.new.placed in
    let l = form.Augment c.in-Augment.target c.in-Augment.operator c.in-Augment.value in
    place_as scope _ _ a z (of x l c.args.token chain (c.in-Augment.is ∙ sym (v.rolls-Augment c.in-Augment.target c.in-Augment.operator c.in-Augment.value)))
    (place_both scope _ _ a b z c.in_ok-place_target-in-Augment.ensures c.in_ok-place_expression-in-Augment.ensures)

pub place_form-returns-in_ok-place_loaded-in-Load : goal.place_form-returns-in_ok-place_loaded-in-Load
place_form-returns-in_ok-place_loaded-in-Load t c =
    let scope = c.args.scope.now in
    let chain = c.args.chain.now in
    let a = c.args.placed.now in
    let x = c.args.form.now in
    let z = c.place_loaded.new.placed in
    place_as scope _ _ a z (of_load x c.in-Load.module c.in-Load.names c.in-Load.is c.args.token chain)
    (place_part (λ ys. all_uses loaded_use ys chain) scope _ _ a z c.as_slice.ensures c.in_ok-place_loaded-in-Load.ensures)

pub place_form-returns-in_ok-place_returned-in-Return : goal.place_form-returns-in_ok-place_returned-in-Return
place_form-returns-in_ok-place_returned-in-Return t c =
    let scope = c.args.scope.now in
    let chain = c.args.chain.now in
    let a = c.args.placed.now in
    let x = c.args.form.now in
    place_as scope _ _ a c.place_returned.new.placed (of x (form.Return c.in-Return.value) c.args.token chain (c.in-Return.is ∙ sym (v.rolls-Return c.in-Return.value))) c.in_ok-place_returned-in-Return.ensures

pub place_form-returns-in_ok-place_statements-in-Def : goal.place_form-returns-in_ok-place_statements-in-Def
place_form-returns-in_ok-place_statements-in-Def t c =
    let scope = c.args.scope.now in
    let chain = c.args.chain.now in
    let a = c.args.placed.now in
    let x = c.args.form.now in
    let token = c.args.token in
    let ps = c.in-Def.parameters in
    let body = c.in-Def.body in
    let inner = c.in_ok-inner-in-Def.inner in
    let b = c.place_name.new.placed in
    let d = c.place_defaults.new.placed in
    let f = c.place_parameter_names.new.placed in
    let z = c.place_statements-in-Def.new.placed in
    place_as scope _ _ a z (of_def x c.in-Def.name ps body c.in-Def.is token chain)
    (place_defined scope token chain _ a z
    (place_both scope (one_use c.in-Def.name chain) _ a b z c.in_ok-place_name-in-Def.ensures
    (place_both scope _ _ b d z (place_part (λ y. all_uses default_uses y chain) scope _ _ b d c.as_slice-in-Def.ensures c.in_ok-place_defaults-in-Def.ensures)
    (place_part (λ k. all_uses parameter_name_uses ps k ++ all_uses in_statement body k) scope inner _ d z c.in_ok-inner-in-Def.ensures
    (place_both scope _ _ d f z (place_part (λ y. all_uses parameter_name_uses y inner) scope _ _ d f c.as_slice-in-Def-2.ensures c.in_ok-place_parameter_names-in-Def.ensures)
    (place_part (λ y. all_uses in_statement y inner) scope _ _ f z c.as_slice-in-Def-3.ensures c.in_ok-place_statements-in-Def.ensures))))))

pub place_form-returns-in_ok-place_statements-in-For : goal.place_form-returns-in_ok-place_statements-in-For
place_form-returns-in_ok-place_statements-in-For t c =
    let scope = c.args.scope.now in
    let chain = c.args.chain.now in
    let a = c.args.placed.now in
    let x = c.args.form.now in
    let b = c.place_expression-in-For.new.placed in
    let d = c.place_target-in-For.new.placed in
    let z = c.place_statements-in-For.new.placed in
    let l = form.For c.in-For.target c.in-For.iterable c.in-For.body in
    place_as scope _ _ a z (of x l c.args.token chain (c.in-For.is ∙ sym (v.rolls-For c.in-For.target c.in-For.iterable c.in-For.body)))
    (place_both scope _ _ a b z c.in_ok-place_expression-in-For.ensures
    (place_both scope _ _ b d z c.in_ok-place_target-in-For.ensures
    (place_part (λ ys. all_uses in_statement ys chain) scope _ _ d z c.as_slice-in-For.ensures c.in_ok-place_statements-in-For.ensures)))

pub place_form-returns-in_ok-place_statements-in-If : goal.place_form-returns-in_ok-place_statements-in-If
place_form-returns-in_ok-place_statements-in-If t c =
    let scope = c.args.scope.now in
    let chain = c.args.chain.now in
    let a = c.args.placed.now in
    let x = c.args.form.now in
    let b = c.place_arms.new.placed in
    let z = c.place_statements.new.placed in
    place_as scope _ _ a z (of x (form.If c.in-If.arms c.in-If.otherwise) c.args.token chain (c.in-If.is ∙ sym (v.rolls-If c.in-If.arms c.in-If.otherwise)))
    (place_both scope _ _ a b z (place_part (λ ys. all_uses in_arm ys chain) scope _ _ a b c.as_slice-in-If.ensures c.in_ok-place_arms-in-If.ensures)
    (place_part (λ ys. all_uses in_statement ys chain) scope _ _ b z c.as_slice-in-If-2.ensures c.in_ok-place_statements-in-If.ensures))

pub place_form-returns-in_ok-place_target-in-Assign : goal.place_form-returns-in_ok-place_target-in-Assign
place_form-returns-in_ok-place_target-in-Assign t c =
    let scope = c.args.scope.now in
    let chain = c.args.chain.now in
    let a = c.args.placed.now in
    let x = c.args.form.now in
    let b = c.place_expression-in-Assign.new.placed in
    let z = c.place_target.new.placed in
    let l = form.Assign c.in-Assign.target c.in-Assign.value in
    place_as scope _ _ a z (of x l c.args.token chain (c.in-Assign.is ∙ sym (v.rolls-Assign c.in-Assign.target c.in-Assign.value)))
    (place_both scope _ _ a b z c.in_ok-place_expression-in-Assign.ensures c.in_ok-place_target-in-Assign.ensures)
