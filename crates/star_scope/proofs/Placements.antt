-- Misplaced statements, one level at a time.
use Rattle.std.proofs.Common.{◌≡◌, List, ◌∷◌, ◌++◌, refl, ap, sym, ◌∙◌}
use Rattle.star_tree.specs.declared.tree.Form.{Form, out-Form, map-Form}
use Rattle.star_tree.specs.declared.tree.Arm.{Arm, out-Arm}
use Rattle.star_tree.specs.declared.tree.Statement.{Statement, out-Statement}
use Rattle.star_tree.specs.declared.tree.Form.TheFolds.{fold-roll-Form, fold_out-Form, fold_out-Arm, fold_out-Statement}
use Rattle.star_tree.specs.declared.tree.Form.TheOpen as form
use Rattle.star_tree.specs.declared.tree.Form.TheVariants as v
use Rattle.star_tree.specs.declared.tree.Position.{Position}
use Rattle.star_scope.specs.declared.placement.StatementContext.{StatementContext}
use Rattle.star_scope.specs.Placement.{Misplaced, form_step, arm_step, statement_step, in_arm, in_arms, in_form, in_statement, in_statements, of_if, misplaced_by}

abbrev pub form_level : form.Form-F Form Arm Statement → Position → Misplaced
form_level l p here = misplaced_by in_arms in_statements l p here

form_steps : (l : form.Form-F Form Arm Statement) (p : Position) (here : StatementContext)
    → form_step (map-Form Form Arm Statement (Position → Misplaced) Misplaced Misplaced in_form in_arm in_statement l) p here ≡ form_level l p here
form_steps (form.Expression e) p here = refl
form_steps _ p here = refl

pub form_opened : (f : Form) (p : Position) (here : StatementContext) → in_form f p here ≡ form_level (out-Form f) p here
form_opened f p here = ap (λ (g : Position → Misplaced). g p here) (fold_out-Form _ _ _ form_step arm_step statement_step f) ∙ form_steps (out-Form f) p here

-- an `if`
pub form_If : (arms : List Arm) (otherwise : List Statement) (p : Position) (here : StatementContext)
    → in_form (v.If arms otherwise) p here ≡ in_arms arms (of_if here) ++ in_statements otherwise (of_if here)
form_If arms otherwise p here =
    ap (λ f. in_form f p here) (sym (v.rolls-If arms otherwise))
    ∙ ap (λ (g : Position → Misplaced). g p here) (fold-roll-Form _ _ _ form_step arm_step statement_step (form.If arms otherwise))
    ∙ form_steps (form.If arms otherwise) p here

pub arm_opened : (a : Arm) (here : StatementContext) → in_arm a here ≡ in_statements (out-Arm a).body here
arm_opened a here = ap (λ (g : Misplaced). g here) (fold_out-Arm _ _ _ form_step arm_step statement_step a)

pub statement_opened : (s : Statement) (here : StatementContext) → in_statement s here ≡ in_form (out-Statement s).form (out-Statement s).position here
statement_opened s here = ap (λ (g : Misplaced). g here) (fold_out-Statement _ _ _ form_step arm_step statement_step s)

-- statements, with the first of them apart
pub statements_next : (s : Statement) (ss : List Statement) (here : StatementContext)
    → in_statements (s ∷ ss) here ≡ in_form (out-Statement s).form (out-Statement s).position here ++ in_statements ss here
statements_next s ss here = ap (λ fs. fs ++ in_statements ss here) (statement_opened s here)

pub arms_next : (a : Arm) (arms : List Arm) (here : StatementContext) → in_arms (a ∷ arms) here ≡ in_statements (out-Arm a).body here ++ in_arms arms here
arms_next a arms here = ap (λ fs. fs ++ in_arms arms here) (arm_opened a here)
