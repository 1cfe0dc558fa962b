use Rattle.std.proofs.Common.{rules, refl, ap, ◌∙◌}
use Rattle.star_tree.specs.declared.tree.Arm.{out-Arm}
use Rattle.star_tree.specs.declared.tree.Statement.{out-Statement}
use Rattle.star_outline.specs.Names.{with_names}
use Rattle.star_outline.specs.Outlines.{arms_loaded, form_loaded, loaded_names}
use Rattle.star_outline.proofs.BoundNames.{loading_arms_next, loads_If, loads_next, names_both, names_turn, names_done}
use Rattle.star_outline.proofs.names.+loads.Goals as goal

pub load_statements-loop-statement-preserved : goal.load_statements-loop-statement-preserved
load_statements-loop-statement-preserved t c =
    names_turn (λ s. form_loaded (out-Statement s).form) loaded_names loads_next c.args.statements.now c.loop-statement.statement-index c.statement-item.result
    c.loop-statement.names c.load_form.new.names _ c.loop-statement-test.true c.statement-item.is c.in_ok-load_form.ensures c.loop-statement.invariant

pub load_statements-returns : goal.load_statements-returns
load_statements-returns t c = names_done loaded_names c.args.statements.now c.loop-statement.statement-index c.loop-statement.names _ refl c.loop-statement-test.false c.loop-statement.invariant

pub load_arms-loop-arm-preserved : goal.load_arms-loop-arm-preserved
load_arms-loop-arm-preserved t c =
    names_turn (λ a. loaded_names (out-Arm a).body) arms_loaded loading_arms_next c.args.arms.now c.loop-arm.arm-index c.arm-item.result
    c.loop-arm.names c.load_statements.new.names _ c.loop-arm-test.true c.arm-item.is (c.in_ok-load_statements.ensures ∙ ap (λ b. with_names c.loop-arm.names (loaded_names b)) c.as_slice.ensures) c.loop-arm.invariant

pub load_arms-returns : goal.load_arms-returns
load_arms-returns t c = names_done arms_loaded c.args.arms.now c.loop-arm.arm-index c.loop-arm.names _ refl c.loop-arm-test.false c.loop-arm.invariant

pub load_form-returns-in_ok-load_statements-in-If : goal.load_form-returns-in_ok-load_statements-in-If
load_form-returns-in_ok-load_statements-in-If t c =
    names_both (arms_loaded c.in-If.arms) (loaded_names c.in-If.otherwise) (form_loaded c.args.form.now) c.args.names.now c.load_arms.new.names c.load_statements.new.names
    (ap form_loaded c.in-If.is ∙ loads_If c.in-If.arms c.in-If.otherwise) (search rules) (search rules)
