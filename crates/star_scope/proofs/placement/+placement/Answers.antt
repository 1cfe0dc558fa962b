use Rattle.std.proofs.Common.{rules, ◌≡◌, ap, sym, refl, ◌∙◌, ◌++◌}
use Rattle.star_tree.specs.declared.tree.Arm.{out-Arm}
use Rattle.star_tree.specs.declared.tree.Statement.{out-Statement}
use Rattle.star_scope.specs.Faults.{first_from}
use Rattle.star_scope.specs.Placement.{in_arms, in_form, in_statements, of_if}
use Rattle.star_scope.proofs.Faults.{first_joined, turn, done}
use Rattle.star_scope.proofs.Placements.{form_If, statements_next, arms_next}
use Rattle.star_scope.proofs.placement.+placement.Goals as goal

pub in_form-returns-in-If : goal.in_form-returns-in-If
in_form-returns-in-If t c =
    let arms = in_arms c.in-If.arms (of_if c.args.here) in
    let otherwise = in_statements c.in-If.otherwise (of_if c.args.here) in
    let whole : in_form c.args.form.now c.args.position c.args.here ≡ arms ++ otherwise =
    ap (λ f. in_form f c.args.position c.args.here) c.in-If.is ∙ form_If c.in-If.arms c.in-If.otherwise c.args.position c.args.here in
    let first : c.in_arms-found.result ≡ first_from c.args.found arms = search rules in
    let then : c.in_statements.result ≡ first_from c.in_arms-found.result otherwise = search rules in
    then ∙ ap (λ m. first_from m otherwise) first ∙ sym (first_joined c.args.found arms otherwise) ∙ ap (λ fs. first_from c.args.found fs) (sym whole)

pub in_statements-loop-statement-preserved : goal.in_statements-loop-statement-preserved
in_statements-loop-statement-preserved t c =
    turn (λ s. in_form (out-Statement s).form (out-Statement s).position c.args.here) (λ ss. in_statements ss c.args.here)
    (λ s ss. statements_next s ss c.args.here) c.args.statements.now c.loop-statement.statement-index c.statement-item.result
    c.loop-statement.found c.in_form-found.result _ c.loop-statement-test.true c.statement-item.is c.in_form-found.ensures c.loop-statement.invariant

pub in_statements-returns : goal.in_statements-returns
in_statements-returns t c =
    done (λ ss. in_statements ss c.args.here) c.args.statements.now c.loop-statement.statement-index c.loop-statement.found _ refl
    c.loop-statement-test.false c.loop-statement.invariant

pub in_arms-returns : goal.in_arms-returns
in_arms-returns t c =
    done (λ arms. in_arms arms c.args.here) c.args.arms.now c.loop-arm.arm-index c.loop-arm.found _ refl
    c.loop-arm-test.false c.loop-arm.invariant

pub in_arms-loop-arm-preserved : goal.in_arms-loop-arm-preserved
in_arms-loop-arm-preserved t c =
    turn (λ a. in_statements (out-Arm a).body c.args.here) (λ arms. in_arms arms c.args.here)
    (λ a arms. arms_next a arms c.args.here) c.args.arms.now c.loop-arm.arm-index c.arm-item.result
    c.loop-arm.found c.in_statements-found.result _ c.loop-arm-test.true c.arm-item.is
    (c.in_statements-found.ensures ∙ ap (λ b. first_from c.loop-arm.found (in_statements b c.args.here)) c.as_slice.ensures) c.loop-arm.invariant
