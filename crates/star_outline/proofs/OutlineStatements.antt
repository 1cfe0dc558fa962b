-- The outlines of statements, one level of the tree at a time.
use Rattle.std.proofs.Common.{◌≡◌, List, refl, ap, sym, ◌∙◌, ◌⊎◌, inl, inr}
use Rattle.star_tree.specs.declared.tree.Form.{Form, out-Form, roll-Form, roll-out-Form, out-roll-Form, para-roll-Form}
use Rattle.star_tree.specs.declared.tree.Arm.{Arm, out-Arm, roll-out-Arm, para-roll-Arm}
use Rattle.star_tree.specs.declared.tree.Statement.{Statement, out-Statement, roll-out-Statement, para-roll-Statement}
use Rattle.star_tree.specs.declared.tree.Form.TheOpen as form
use Rattle.star_tree.specs.declared.tree.Form.TheVariants as v
use Rattle.star_tree.specs.declared.tree.BinaryOperator.{BinaryOperator}
use Rattle.star_tree.specs.declared.tree.Expression.{Expression}
use Rattle.star_tree.specs.declared.tree.Name.{Name}
use Rattle.star_tree.specs.declared.tree.Parameter.{Parameter}
use Rattle.star_tree.specs.declared.tree.Position.{Position}
use Rattle.star_tree.specs.declared.tree.Target.{Target}
use Rattle.star_outline.specs.Syntax.{StatementForm, form_of, position_of}
use Rattle.star_outline.specs.Outlines.{Found, Statements, and, arm_found, definition, form_found, in_arm, in_arms, in_expression, in_form, in_statement, in_statements, in_target, nothing, own_definition, statement_found, found_by}

abbrev pub form_level : StatementForm → Found
form_level l = found_by in_arms in_statements l

-- (a clause with a form comes first, so that the last one is read at each form by itself)
form_rolled : (l : StatementForm) → in_form (roll-Form l) ≡ form_level l
form_rolled (form.Expression e) = para-roll-Form Found Found Found form_found arm_found statement_found (form.Expression e)
form_rolled l = para-roll-Form Found Found Found form_found arm_found statement_found l

pub form_at : (x : Form) (l : StatementForm) → x ≡ roll-Form l → in_form x ≡ form_level l
form_at x l is = ap in_form is ∙ form_rolled l

pub form_opened : (x : Form) → in_form x ≡ form_level (out-Form x)
form_opened x = form_at x (out-Form x) (sym (roll-out-Form x))

pub of_assigned : (x : Form) (t : Target) (e : Expression) → (x ≡ v.Assign t e) ⊎ ((op : BinaryOperator) × (x ≡ v.Augment t op e)) → in_form x ≡ and (in_target t) (in_expression e)
of_assigned x t e (inl is) = form_at x (form.Assign t e) (is ∙ sym (v.rolls-Assign t e))
of_assigned x t e (inr (op, is)) = form_at x (form.Augment t op e) (is ∙ sym (v.rolls-Augment t op e))

pub statement_opened : (s : Statement) → in_statement s ≡ and (own_definition (position_of s) (form_of s)) (in_form (out-Statement s).form)
statement_opened s = ap in_statement (sym (roll-out-Statement s)) ∙ para-roll-Statement Found Found Found form_found arm_found statement_found (out-Statement s)

pub arm_opened : (a : Arm) → in_arm a ≡ and (in_expression (out-Arm a).condition) (in_statements (out-Arm a).body)
arm_opened a = ap in_arm (sym (roll-out-Arm a)) ∙ para-roll-Arm Found Found Found form_found arm_found statement_found (out-Arm a)

-- a `def`, and a statement of another form
pub is_definition : (p : Position) (n : Name) (ps : List Parameter) (body : List Statement) → own_definition p (out-Form (v.Def n ps body)) ≡ definition p.token ps (Statements body)
is_definition p n ps body = ap (own_definition p) (ap out-Form (sym (v.rolls-Def n ps body)) ∙ out-roll-Form (form.Def n ps body))

level : (p : Position) (l : StatementForm) → ((n : Name) (ps : List Parameter) (body : List Statement) → l ≡ form.Def n ps body → ⊥) → own_definition p l ≡ nothing
level p (form.Def n ps body) other = elim (other n ps body refl) [ ]
level p _ other = refl

pub no_definition : (p : Position) (f : Form) → ((n : Name) (ps : List Parameter) (body : List Statement) → f ≡ v.Def n ps body → ⊥) → own_definition p (out-Form f) ≡ nothing
no_definition p f other = level p (out-Form f) (λ n ps body is. other n ps body (sym (roll-out-Form f) ∙ ap roll-Form is ∙ v.rolls-Def n ps body))
