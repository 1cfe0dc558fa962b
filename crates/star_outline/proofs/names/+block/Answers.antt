use Rattle.std.proofs.Common.{rules, refl, ap, ◌∙◌}
use Rattle.star_tree.specs.declared.tree.Arm.{out-Arm}
use Rattle.star_tree.specs.declared.tree.Statement.{out-Statement}
use Rattle.star_outline.specs.Names.{with_names}
use Rattle.star_outline.specs.Outlines.{arms_names, block_names, form_names, target_names}
use Rattle.star_outline.proofs.BoundNames.{arms_next, form_For, form_If, names_both, names_turn, names_done, statements_next}
use Rattle.star_outline.proofs.names.+block.Goals as goal

pub add_statements-loop-statement-preserved : goal.add_statements-loop-statement-preserved
add_statements-loop-statement-preserved t c =
    names_turn (λ s. form_names (out-Statement s).form) block_names statements_next c.args.statements.now c.loop-statement.statement-index c.statement-item.result
    c.loop-statement.names c.add_form.new.names _ c.loop-statement-test.true c.statement-item.is c.in_ok-add_form.ensures c.loop-statement.invariant

pub add_statements-returns : goal.add_statements-returns
add_statements-returns t c = names_done block_names c.args.statements.now c.loop-statement.statement-index c.loop-statement.names _ refl c.loop-statement-test.false c.loop-statement.invariant

pub add_arms-loop-arm-preserved : goal.add_arms-loop-arm-preserved
add_arms-loop-arm-preserved t c =
    names_turn (λ a. block_names (out-Arm a).body) arms_names arms_next c.args.arms.now c.loop-arm.arm-index c.arm-item.result
    c.loop-arm.names c.add_statements.new.names _ c.loop-arm-test.true c.arm-item.is (c.in_ok-add_statements.ensures ∙ ap (λ b. with_names c.loop-arm.names (block_names b)) c.as_slice.ensures) c.loop-arm.invariant

pub add_arms-returns : goal.add_arms-returns
add_arms-returns t c = names_done arms_names c.args.arms.now c.loop-arm.arm-index c.loop-arm.names _ refl c.loop-arm-test.false c.loop-arm.invariant

pub add_form-returns-in_ok-add_statements-in-If : goal.add_form-returns-in_ok-add_statements-in-If
add_form-returns-in_ok-add_statements-in-If t c =
    names_both (arms_names c.in-If.arms) (block_names c.in-If.otherwise) (form_names c.args.form.now) c.args.names.now c.add_arms.new.names c.add_statements.new.names
    (ap form_names c.in-If.is ∙ form_If c.in-If.arms c.in-If.otherwise) (search rules) (search rules)

pub add_form-returns-in_ok-add_statements-in-For : goal.add_form-returns-in_ok-add_statements-in-For
add_form-returns-in_ok-add_statements-in-For t c =
    names_both (target_names c.in-For.target) (block_names c.in-For.body) (form_names c.args.form.now) c.args.names.now c.add_target.new.names c.add_statements-in-For.new.names
    (ap form_names c.in-For.is ∙ form_For _ _ c.in-For.body) (search rules) (search rules)
