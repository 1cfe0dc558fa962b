-- Each part of the grammar of statements reads values in order, if the parts that hold themselves do.
use Rattle.std.proofs.Common.{◌≡◌, Bool, true, ◌&&◌, List, [], ◌∷◌, map, Option, Some, None, refl, ap, sym, ◌∙◌, subst}
use Rattle.star_syntax.specs.declared.level.Level.{Level}
use Rattle.star_syntax.specs.declared.level.Level.TheVariants as levels
use Rattle.star_tree.specs.declared.tree.Position.{Position}
use Rattle.star_tree.specs.declared.tree.Name.{Name}
use Rattle.star_tree.specs.declared.tree.Literal.{Literal}
use Rattle.star_tree.specs.declared.tree.LoadedName.{LoadedName}
use Rattle.star_tree.specs.declared.tree.BinaryOperator.{BinaryOperator}
use Rattle.star_tree.specs.declared.tree.Expression.{Expression}
use Rattle.star_tree.specs.declared.tree.Parameter.{Parameter}
use Rattle.star_tree.specs.declared.tree.Target.{Target}
use Rattle.star_tree.specs.declared.tree.Form.{Form, roll-Form, map-Form}
use Rattle.star_tree.specs.declared.tree.Form.TheVariants as f
use Rattle.star_tree.specs.declared.tree.Form.TheOpen as form
use Rattle.star_tree.specs.declared.tree.Form.TheFolds as form_folds
use Rattle.star_tree.specs.declared.tree.Arm.{Arm, roll-Arm}
use Rattle.star_tree.specs.declared.tree.Statement.{Statement, roll-Statement}
use Rattle.star_syntax.specs.Sorts.{Val, both, maybe, list}
use Rattle.star_syntax.specs.Sorts as sorts
use Rattle.star_syntax.specs.Grammar.{level, statement, nonterminal, Readers}
use Rattle.star_syntax.specs.Keeps.{parameters_in_order, target_of, augmented_of}
use Rattle.star_syntax.specs.InOrder.{in_order, parameter_in_order, target_in_order, every, value_in_order, form_step, arm_step, statement_step, statement_in_order}
use Rattle.star_syntax.specs.Statements.{assign_of, augment_of, assignment_of, expression_or_assignment_of, if_of, returned, load, right_side, expression_or_assignment, keyword_form, small_form, small, next_small, small_statements, simple, body, block, suite, colon_suite, arm, next_arm, first_arm, arms, otherwise, condition, iteration, definition, compound_form, compound, one_statement, statements, file}
use Rattle.star_syntax.proofs.Kept.{OfExpression, OfTarget, Taken, true-both}
use Rattle.star_syntax.proofs.Makes.{Makes, Each, Maybe, each-append, nothing-found, same_some, makes-any, makes-seq, makes-alt, makes-act, makes-when, makes-placed, makes-fold, makes-after, makes-before, makes-opt, makes-list}
use Rattle.star_syntax.proofs.TargetsInOrder.{target-kept, augmented-kept}
use Rattle.star_syntax.proofs.ExpressionsInOrder.{tests', targets', parameters-in-parentheses}

-- ---- one level

unfoldable form_in_order : Form → Bool
form_in_order = form_folds.fold-Form Bool Bool Bool form_step arm_step statement_step

unfoldable arm_in_order : Arm → Bool
arm_in_order = form_folds.fold-Arm Bool Bool Bool form_step arm_step statement_step

abbrev pub OfStatement : Statement → Type 0
OfStatement x = statement_in_order x ≡ true

abbrev OfForm : Form → Type 0
OfForm x = form_in_order x ≡ true

abbrev OfArm : Arm → Type 0
OfArm x = arm_in_order x ≡ true

abbrev Layer : Type 0
Layer = form.Form-F Form Arm Statement

formed : (l : Layer) → form_in_order (roll-Form l) ≡ form_step (map-Form Form Arm Statement Bool Bool Bool form_in_order arm_in_order statement_in_order l)
unfolding form_in_order arm_in_order statement_in_order
formed l = form_folds.fold-roll-Form Bool Bool Bool form_step arm_step statement_step l

pub every-kept : {A : Type 0} (test : A → Bool) (xs : List A) → Each (λ x. test x ≡ true) xs → every (map test xs) ≡ true
every-kept test [] k = refl
every-kept test (x ∷ xs) k = true-both (test x) (every (map test xs)) k.0 (every-kept test xs k.1)

an-expression : (x : Expression) → OfExpression x → OfForm (f.Expression x)
an-expression x k = ap form_in_order (sym (f.rolls-Expression x)) ∙ (formed (form.Expression x) ∙ k)

an-assignment : (t : Target) (x : Expression) → OfTarget t → OfExpression x → OfForm (f.Assign t x)
an-assignment t x k l = ap form_in_order (sym (f.rolls-Assign t x)) ∙ (formed (form.Assign t x) ∙ true-both (target_in_order t) (in_order x) k l)

an-augmentation : (t : Target) (op : BinaryOperator) (x : Expression) → OfTarget t → OfExpression x → OfForm (f.Augment t op x)
an-augmentation t op x k l = ap form_in_order (sym (f.rolls-Augment t op x)) ∙ (formed (form.Augment t op x) ∙ true-both (target_in_order t) (in_order x) k l)

a-pass : OfForm f.Pass
a-pass = ap form_in_order (sym f.rolls-Pass) ∙ formed form.Pass

a-break : OfForm f.Break
a-break = ap form_in_order (sym f.rolls-Break) ∙ formed form.Break

a-continue : OfForm f.Continue
a-continue = ap form_in_order (sym f.rolls-Continue) ∙ formed form.Continue

value-kept : (o : Option Expression) → Maybe OfExpression o → value_in_order o ≡ true
value-kept None k = refl
value-kept (Some x) k = k

a-return : (o : Option Expression) → Maybe OfExpression o → OfForm (f.Return o)
a-return o k = ap form_in_order (sym (f.rolls-Return o)) ∙ (formed (form.Return o) ∙ value-kept o k)

a-load : (l : Literal) (ns : List LoadedName) → OfForm (f.Load l ns)
a-load l ns = ap form_in_order (sym (f.rolls-Load l ns)) ∙ formed (form.Load l ns)

a-choice : (all : List Arm) (others : List Statement) → Each OfArm all → Each OfStatement others → OfForm (f.If all others)
a-choice all others k l = ap form_in_order (sym (f.rolls-If all others)) ∙ (formed (form.If all others) ∙ true-both (every (map arm_in_order all)) (every (map statement_in_order others)) (every-kept arm_in_order all k) (every-kept statement_in_order others l))

a-loop : (t : Target) (x : Expression) (inner : List Statement) → OfTarget t → OfExpression x → Each OfStatement inner → OfForm (f.For t x inner)
a-loop t x inner j k l = ap form_in_order (sym (f.rolls-For t x inner)) ∙ (formed (form.For t x inner) ∙ true-both (target_in_order t) (in_order x && every (map statement_in_order inner)) j (true-both (in_order x) (every (map statement_in_order inner)) k (every-kept statement_in_order inner l)))

a-definition : (n : Name) (ps : List Parameter) (inner : List Statement) → Taken ps → Each OfStatement inner → OfForm (f.Def n ps inner)
a-definition n ps inner k l = ap form_in_order (sym (f.rolls-Def n ps inner)) ∙ (formed (form.Def n ps inner) ∙ true-both (parameters_in_order ps) (every (map parameter_in_order ps) && every (map statement_in_order inner)) k.0 (true-both (every (map parameter_in_order ps)) (every (map statement_in_order inner)) (every-kept parameter_in_order ps k.1) (every-kept statement_in_order inner l)))

an-arm : (x : Expression) (inner : List Statement) → OfExpression x → Each OfStatement inner → OfArm (roll-Arm (record { condition = x; body = inner }))
unfolding form_in_order arm_in_order statement_in_order
an-arm x inner k l = form_folds.fold-roll-Arm Bool Bool Bool form_step arm_step statement_step (record { condition = x; body = inner }) ∙ true-both (in_order x) (every (map statement_in_order inner)) k (every-kept statement_in_order inner l)

a-statement : (at : Position) (x : Form) → OfForm x → OfStatement (roll-Statement (record { position = at; form = x }))
unfolding form_in_order arm_in_order statement_in_order
a-statement at x k = form_folds.fold-roll-Statement Bool Bool Bool form_step arm_step statement_step (record { position = at; form = x }) ∙ k

-- ---- the values of productions

assigned : (o : Option Target) (x : Expression) (y : Form) → ((t : Target) → o ≡ Some t → OfTarget t) → OfExpression x → assign_of o x ≡ Some y → OfForm y
assigned None x y k l e = absurd (nothing-found y e)
assigned (Some t) x y k l e = subst OfForm (same_some (f.Assign t x) y e) (an-assignment t x (k t refl) l)

augmented : (o : Option Target) (op : BinaryOperator) (x : Expression) (y : Form) → ((t : Target) → o ≡ Some t → OfTarget t) → OfExpression x → augment_of o op x ≡ Some y → OfForm y
augmented None op x y k l e = absurd (nothing-found y e)
augmented (Some t) op x y k l e = subst OfForm (same_some (f.Augment t op x) y e) (an-augmentation t op x (k t refl) l)

told-with : (left : Expression) (o : Option BinaryOperator) (x : Expression) (y : Form) → OfExpression left → OfExpression x → assignment_of left o x ≡ Some y → OfForm y
told-with left None x y k l e = assigned (target_of left) x y (λ t i. target-kept left t k i) l e
told-with left (Some op) x y k l e = augmented (augmented_of left) op x y (λ t i. augmented-kept left t k i) l e

told' : (p : Expression × Option (Option BinaryOperator × Expression)) (y : Form) → OfExpression p.0 × Maybe (λ q. Unit {0} × OfExpression q.1) p.1 → expression_or_assignment_of p ≡ Some y → OfForm y
told' (left, None) y k e = subst OfForm (same_some (f.Expression left) y e) (an-expression left k.0)
told' (left, Some q) y k e = told-with left q.0 q.1 y k.0 k.1.1 e

an-if : (p : List Arm × Option (List Statement)) → Each OfArm p.0 × Maybe (Each OfStatement) p.1 → OfForm (if_of p)
an-if (all, None) k = a-choice all [] k.0 tt
an-if (all, Some others) k = a-choice all others k.0 k.1

-- ---- productions

module _ (k : Readers) (m : (l : Level) → Makes k sorts.expression (nonterminal (level l)) OfExpression) (n : Makes k (list sorts.statement) (nonterminal statement) (Each OfStatement)) where
  small-form : Makes k _ small_form OfForm
  unfolding small_form returned keyword_form load expression_or_assignment right_side
  small-form = makes-alt k (makes-act k a-return (makes-after k (makes-opt k (tests' k m))))
      (makes-alt k (makes-alt k (makes-act k (λ u q. a-break) (makes-any k)) (makes-alt k (makes-act k (λ u q. a-continue) (makes-any k)) (makes-act k (λ u q. a-pass) (makes-any k))))
      (makes-alt k (makes-act k (λ p q. a-load p.0 p.1) (makes-any k))
      (makes-when k told' (makes-seq k (tests' k m) (makes-opt k (makes-seq k (makes-any k) (tests' k m)))))))

  small' : Makes k _ small OfStatement
  unfolding small
  small' = makes-act k (λ p q. a-statement p.0 p.1 q) (makes-placed k small-form)

  simple' : Makes k _ simple (Each OfStatement)
  unfolding simple small_statements next_small
  simple' = makes-before k (makes-list k small' (makes-after k small'))

  colon-suite : Makes k _ colon_suite (Each OfStatement)
  unfolding colon_suite suite block body
  colon-suite = makes-after k (makes-alt k simple' (makes-after k (makes-after k (makes-before k (makes-fold k (each-append OfStatement) n n)))))

  arm' : Makes k _ arm OfArm
  unfolding arm
  arm' = makes-act k (λ p q. an-arm p.0 p.1 q.0 q.1) (makes-seq k (m levels.Test) colon-suite)

  condition' : Makes k _ condition OfForm
  unfolding condition arms first_arm next_arm otherwise
  condition' = makes-act k an-if (makes-seq k (makes-list k (makes-after k arm') (makes-after k arm')) (makes-opt k (makes-after k colon-suite)))

  iteration' : Makes k _ iteration OfForm
  unfolding iteration
  iteration' = makes-act k (λ p q. a-loop p.0 p.1.0 p.1.1 q.0 q.1.0 q.1.1) (makes-after k (makes-seq k (targets' k m) (makes-after k (makes-seq k (tests' k m) colon-suite))))

  definition' : Makes k _ definition OfForm
  unfolding definition
  definition' = makes-act k (λ p q. a-definition p.0 p.1.0 p.1.1 q.1.0 q.1.1) (makes-after k (makes-seq k (makes-any k) (makes-seq k (parameters-in-parentheses k m) colon-suite)))

  compound' : Makes k _ compound OfStatement
  unfolding compound compound_form
  compound' = makes-act k (λ p q. a-statement p.0 p.1 q) (makes-placed k (makes-alt k definition' (makes-alt k condition' iteration')))

  pub one-statement : Makes k _ one_statement (Each OfStatement)
  unfolding one_statement
  one-statement = makes-alt k (makes-act k (λ x q. (q, tt)) compound') simple'

  pub file' : Makes k _ file (Each OfStatement)
  unfolding file statements
  file' = makes-before k (makes-fold k (each-append OfStatement) (makes-act k (λ u q. tt) (makes-any k)) n)
