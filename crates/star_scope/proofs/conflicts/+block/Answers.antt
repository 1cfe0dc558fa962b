use Rattle.std.proofs.Common.{ap, sym, ◌∙◌, subst}
use Rattle.std.specs.List.{flat_map}
use Rattle.star_scope.specs.Bound.{Binds}
use Rattle.star_scope.specs.Conflicts.{arm_bindings, arms_bindings, form_bindings, loaded_binding, statement_bindings, statements_bindings, target_bindings}
use Rattle.star_scope.proofs.Bindings.{bind_none, bind_both}
use Rattle.star_scope.proofs.BlockBindings.{binds_turn, binds_done, all_next, arm_opened, statement_opened, of_assigned, of_Load, of_If, of_For, of_Def, bind_others}
use Rattle.star_scope.proofs.conflicts.+block.Goals as goal

pub bind_arms-loop-arm-init : goal.bind_arms-loop-arm-init
bind_arms-loop-arm-init t c = bind_none c.args.bound.now

pub bind_arms-loop-arm-preserved : goal.bind_arms-loop-arm-preserved
bind_arms-loop-arm-preserved t c =
    binds_turn arm_bindings arms_bindings (all_next arm_bindings) _ _ _ c.args.bound.now c.loop-arm.bound c.bind_statements.new.bound c.loop-arm-test.true c.arm-item.is c.loop-arm.invariant
    (subst (λ bs. Binds bs c.loop-arm.bound c.bind_statements.new.bound)
    (ap statements_bindings c.as_slice.ensures ∙ sym (arm_opened c.arm-item.result)) c.in_ok-bind_statements.ensures)

pub bind_arms-returns : goal.bind_arms-returns
bind_arms-returns t c =
    binds_done arms_bindings c.args.arms.now c.loop-arm.arm-index c.args.bound.now c.loop-arm.bound
    c.loop-arm-test.false c.loop-arm.auto.arm-index-end c.loop-arm.invariant

pub bind_statements-loop-statement-init : goal.bind_statements-loop-statement-init
bind_statements-loop-statement-init t c = bind_none c.args.bound.now

pub bind_statements-loop-statement-preserved : goal.bind_statements-loop-statement-preserved
bind_statements-loop-statement-preserved t c =
    binds_turn statement_bindings statements_bindings (all_next statement_bindings) _ _ _ c.args.bound.now c.loop-statement.bound c.bind_form.new.bound c.loop-statement-test.true c.statement-item.is c.loop-statement.invariant
    (subst (λ bs. Binds bs c.loop-statement.bound c.bind_form.new.bound) (sym (statement_opened c.statement-item.result)) c.in_ok-bind_form.ensures)

pub bind_statements-returns : goal.bind_statements-returns
bind_statements-returns t c =
    binds_done statements_bindings c.args.statements.now c.loop-statement.statement-index c.args.bound.now c.loop-statement.bound
    c.loop-statement-test.false c.loop-statement.auto.statement-index-end c.loop-statement.invariant

pub bind_form-returns-in_ok-bind_loaded-in-Load : goal.bind_form-returns-in_ok-bind_loaded-in-Load
bind_form-returns-in_ok-bind_loaded-in-Load t c =
    subst (λ bs. Binds bs c.args.bound.now c.bind_loaded.new.bound)
    (ap (flat_map loaded_binding) c.as_slice.ensures ∙ sym (ap form_bindings c.in-Load.is ∙ of_Load _ c.in-Load.names)) c.in_ok-bind_loaded-in-Load.ensures

pub bind_form-returns-in_ok-bind_statements-in-If : goal.bind_form-returns-in_ok-bind_statements-in-If
bind_form-returns-in_ok-bind_statements-in-If t c =
    let front : Binds (arms_bindings c.in-If.arms) c.args.bound.now c.bind_arms.new.bound =
    subst (λ x. Binds (arms_bindings x) c.args.bound.now c.bind_arms.new.bound) c.as_slice-in-If.ensures c.in_ok-bind_arms-in-If.ensures in
    let back : Binds (statements_bindings c.in-If.otherwise) c.bind_arms.new.bound c.bind_statements.new.bound =
    subst (λ x. Binds (statements_bindings x) c.bind_arms.new.bound c.bind_statements.new.bound) c.as_slice-in-If-2.ensures c.in_ok-bind_statements-in-If.ensures in
    subst (λ bs. Binds bs c.args.bound.now c.bind_statements.new.bound) (sym (ap form_bindings c.in-If.is ∙ of_If c.in-If.arms c.in-If.otherwise))
    (bind_both (arms_bindings c.in-If.arms) (statements_bindings c.in-If.otherwise) c.args.bound.now c.bind_arms.new.bound c.bind_statements.new.bound front back)

pub bind_form-returns-in_ok-bind_statements-in-For : goal.bind_form-returns-in_ok-bind_statements-in-For
bind_form-returns-in_ok-bind_statements-in-For t c =
    let own = target_bindings c.in-For.target in
    let middle = c.bind_target.new.bound in
    let last = c.bind_statements-in-For.new.bound in
    let back : Binds (statements_bindings c.in-For.body) middle last =
    subst (λ x. Binds (statements_bindings x) middle last) c.as_slice-in-For.ensures c.in_ok-bind_statements-in-For.ensures in
    subst (λ bs. Binds bs c.args.bound.now last) (sym (ap form_bindings c.in-For.is ∙ of_For c.in-For.target _ c.in-For.body))
    (bind_both own (statements_bindings c.in-For.body) c.args.bound.now middle last c.in_ok-bind_target-in-For.ensures back)

pub bind_form-returns-in_ok-bind-in-Def : goal.bind_form-returns-in_ok-bind-in-Def
bind_form-returns-in_ok-bind-in-Def t c =
    subst (λ bs. Binds bs c.args.bound.now c.bind.new.bound) (sym (ap form_bindings c.in-Def.is ∙ of_Def c.in-Def.name _ _)) c.in_ok-bind-in-Def.ensures

pub bind_form-returns-in-Expression : goal.bind_form-returns-in-Expression
bind_form-returns-in-Expression t c = bind_others c.args.form.now c.args.bound.now c.in-Expression.is

pub bind_form-returns-in-Expression-2 : goal.bind_form-returns-in-Expression-2
bind_form-returns-in-Expression-2 t c = bind_others c.args.form.now c.args.bound.now c.in-Expression.is

pub bind_form-returns-in-Expression-3 : goal.bind_form-returns-in-Expression-3
bind_form-returns-in-Expression-3 t c = bind_others c.args.form.now c.args.bound.now c.in-Expression.is

pub bind_form-returns-in-Expression-4 : goal.bind_form-returns-in-Expression-4
bind_form-returns-in-Expression-4 t c = bind_others c.args.form.now c.args.bound.now c.in-Expression.is

pub bind_form-returns-in-Expression-5 : goal.bind_form-returns-in-Expression-5
bind_form-returns-in-Expression-5 t c = bind_others c.args.form.now c.args.bound.now c.in-Expression.is

pub bind_form-returns-in_ok-bind_target-in-Assign : goal.bind_form-returns-in_ok-bind_target-in-Assign
bind_form-returns-in_ok-bind_target-in-Assign t c =
    subst (λ bs. Binds bs c.args.bound.now c.bind_target-in-Assign.new.bound) (sym (of_assigned c.args.form.now c.in-Assign.target c.in-Assign.is)) c.in_ok-bind_target-in-Assign.ensures
