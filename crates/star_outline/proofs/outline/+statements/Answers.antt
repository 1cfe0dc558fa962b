use Rattle.std.proofs.Common.{rules, refl, sym, ◌∙◌}
use Rattle.star_tree.specs.declared.tree.Arm.{out-Arm}
use Rattle.star_tree.specs.declared.tree.Statement.{out-Statement}
use Rattle.star_tree.specs.declared.tree.Form.TheOpen as form
use Rattle.star_tree.specs.declared.tree.Form.TheVariants as v
use Rattle.star_outline.specs.Syntax.{form_of, position_of}
use Rattle.star_outline.specs.Outlines.{in_arm, in_arms, in_expression, in_form, in_optional, in_parameters, in_statement, in_statements, in_target, own_definition}
use Rattle.star_outline.proofs.OutlineLevels.{found_both, found_done, found_one, found_three, found_turn}
use Rattle.star_outline.proofs.OutlineStatements.{arm_opened, form_at, of_assigned, statement_opened}
use Rattle.star_outline.proofs.outline.+statements.Goals as goal

pub find_in_statements-loop-statement-preserved : goal.find_in_statements-loop-statement-preserved
find_in_statements-loop-statement-preserved t c =
    found_turn in_statement in_statements (λ x xs. refl) c.args.statements.now c.loop-statement.statement-index c.statement-item.result
    c.loop-statement.found c.find_in_statement.new.found _ c.loop-statement-test.true c.statement-item.is c.in_ok-find_in_statement.ensures c.loop-statement.invariant

pub find_in_statements-returns : goal.find_in_statements-returns
find_in_statements-returns t c = found_done in_statements c.args.statements.now c.loop-statement.statement-index c.loop-statement.found _ refl c.loop-statement-test.false c.loop-statement.invariant

pub find_in_arms-loop-arm-preserved : goal.find_in_arms-loop-arm-preserved
find_in_arms-loop-arm-preserved t c =
    found_turn in_arm in_arms (λ x xs. refl) c.args.arms.now c.loop-arm.arm-index c.arm-item.result
    c.loop-arm.found c.find_in_arm.new.found _ c.loop-arm-test.true c.arm-item.is c.in_ok-find_in_arm.ensures c.loop-arm.invariant

pub find_in_arms-returns : goal.find_in_arms-returns
find_in_arms-returns t c = found_done in_arms c.args.arms.now c.loop-arm.arm-index c.loop-arm.found _ refl c.loop-arm-test.false c.loop-arm.invariant

pub find_in_form-returns-in_ok-find_in_expression-in-Expression :
    goal.find_in_form-returns-in_ok-find_in_expression-in-Expression
find_in_form-returns-in_ok-find_in_expression-in-Expression t c =
    found_one (in_expression c.in-Expression.value) (in_form c.args.form.now) c.args.found.now _
    (form_at _ (form.Expression c.in-Expression.value) (c.in-Expression.is ∙ sym (v.rolls-Expression c.in-Expression.value))) (search rules)

pub find_in_form-returns-in_ok-find_in_expression-in-Assign :
    goal.find_in_form-returns-in_ok-find_in_expression-in-Assign
find_in_form-returns-in_ok-find_in_expression-in-Assign t c =
    found_both (in_target c.in-Assign.target) (in_expression c.in-Assign.value) (in_form c.args.form.now) c.args.found.now c.find_in_target-in-Assign.new.found c.find_in_expression-in-Assign.new.found
    (of_assigned _ _ _ c.in-Assign.is) (search rules) (search rules)

pub find_in_form-returns-in_ok-find_in_returned-in-Return :
    goal.find_in_form-returns-in_ok-find_in_returned-in-Return
find_in_form-returns-in_ok-find_in_returned-in-Return t c =
    found_one (in_optional c.in-Return.value) (in_form c.args.form.now) c.args.found.now _
    (form_at _ (form.Return c.in-Return.value) (c.in-Return.is ∙ sym (v.rolls-Return c.in-Return.value))) (search rules)

pub find_in_form-returns-in_ok-find_in_statements-in-If :
    goal.find_in_form-returns-in_ok-find_in_statements-in-If
find_in_form-returns-in_ok-find_in_statements-in-If t c =
    let k = c.in-If in
    found_both (in_arms k.arms) (in_statements k.otherwise) (in_form c.args.form.now) c.args.found.now c.find_in_arms.new.found c.find_in_statements.new.found
    (form_at _ (form.If k.arms k.otherwise) (k.is ∙ sym (v.rolls-If k.arms k.otherwise))) (search rules) (search rules)

pub find_in_form-returns-in_ok-find_in_statements-in-For :
    goal.find_in_form-returns-in_ok-find_in_statements-in-For
find_in_form-returns-in_ok-find_in_statements-in-For t c =
    let k = c.in-For in
    found_three (in_target k.target) (in_expression k.iterable) (in_statements k.body) (in_form c.args.form.now) c.args.found.now
    c.find_in_target.new.found c.find_in_expression-in-For.new.found c.find_in_statements-in-For.new.found
    (form_at _ (form.For k.target k.iterable k.body) (k.is ∙ sym (v.rolls-For k.target k.iterable k.body))) (search rules) (search rules) (search rules)

pub find_in_form-returns-in_ok-find_in_statements-in-Def :
    goal.find_in_form-returns-in_ok-find_in_statements-in-Def
find_in_form-returns-in_ok-find_in_statements-in-Def t c =
    let k = c.in-Def in
    found_both (in_parameters k.parameters) (in_statements k.body) (in_form c.args.form.now) c.args.found.now c.find_in_parameters.new.found c.find_in_statements-in-Def.new.found
    (form_at _ (form.Def _ k.parameters k.body) (k.is ∙ sym (v.rolls-Def _ k.parameters k.body))) (search rules) (search rules)

pub find_in_statement-returns :
    goal.find_in_statement-returns
find_in_statement-returns t c =
    found_both (own_definition (position_of c.args.statement.now) (form_of c.args.statement.now)) (in_form (out-Statement c.args.statement.now).form) (in_statement c.args.statement.now)
    c.args.found.now c.add_own.new.found c.find_in_form.new.found (statement_opened c.args.statement.now) (search rules) (search rules)

pub find_in_arm-returns :
    goal.find_in_arm-returns
find_in_arm-returns t c =
    found_both (in_expression (out-Arm c.args.arm.now).condition) (in_statements (out-Arm c.args.arm.now).body) (in_arm c.args.arm.now)
    c.args.found.now c.find_in_expression.new.found c.find_in_statements.new.found (arm_opened c.args.arm.now) (search rules) (search rules)
