-- Nothing is misplaced in the bodies of a file's functions if nothing is misplaced in the file.
use Rattle.std.proofs.Common.{◌≡◌, ℕ, List, [], ◌∷◌, ◌++◌, map, nat_eq, Bool, true, false, Some, None, refl, ap, sym, subst, ◌∙◌, if◌then◌else◌}
use Rattle.star_tree.specs.declared.tree.Parameter.{Parameter}
use Rattle.star_tree.specs.declared.tree.Position.{Position}
use Rattle.star_tree.specs.declared.tree.Form.{Form, out-Form, roll-Form, out-roll-Form, para-roll-Form}
use Rattle.star_tree.specs.declared.tree.Arm.{Arm, roll-Arm, para-roll-Arm}
use Rattle.star_tree.specs.declared.tree.Statement.{Statement, roll-Statement, para-roll-Statement, ind-Statement}
use Rattle.star_tree.specs.declared.tree.Form.TheOpen as form
use Rattle.star_tree.specs.declared.tree.Form.TheFolds as form_folds
use Rattle.star_outline.specs.declared.outline.Found.{Found}
use Rattle.star_outline.specs.Definitions.{Statements, Definition, definition_in}
use Rattle.star_outline.specs.Outlines as found
use Rattle.star_outline.specs.Outlines.{and, definition, in_all, outline}
use Rattle.star_scope.specs.declared.placement.StatementContext.{StatementContext}
use Rattle.star_scope.specs.Placement.{Misplaced, each, form_step, arm_step, statement_step, in_arm, in_form, in_statement, in_statements, of_function, of_if, of_loop}
use Rattle.star_unseen.specs.Veil.{Every}
use Rattle.star_unseen.specs.Shelves.{BodyIsPlaced}
use Rattle.star_needs.proofs.PlacedParts.{IsPlaced, Placed, everyone, expression-placed, parameter-placed, placed_all, placed_both, placed_is, placed_none, target-placed}

pub left_none : {A : Type 0} (xs ys : List A) → (xs ++ ys) ≡ [] → xs ≡ []
left_none [] ys e = refl
left_none (x ∷ xs) ys e = absurd (let no : ⊥ = cc in no)

pub right_none : {A : Type 0} (xs ys : List A) → (xs ++ ys) ≡ [] → ys ≡ []
right_none [] ys e = e
right_none (x ∷ xs) ys e = absurd (let no : ⊥ = cc in no)

abbrev PF : Form → Type 0
PF x = (at : Position) (here : StatementContext) → in_form x at here ≡ [] → Placed (and (found.own_definition at (out-Form x)) (found.in_form x))

abbrev PB : Arm → Type 0
PB x = (here : StatementContext) → in_arm x here ≡ [] → Placed (found.in_arm x)

abbrev PX : Statement → Type 0
PX x = (here : StatementContext) → in_statement x here ≡ [] → Placed (found.in_statement x)

-- rows of parts in one place
all_placed : {A : Type 0} (f : A → Misplaced) (g : A → Found) (xs : List A) → Every (λ x. (here : StatementContext) → f x here ≡ [] → Placed (g x)) xs
    → (here : StatementContext) → each (map f xs) here ≡ [] → Placed (in_all (map (λ z. (z, g z)) xs))
all_placed f g [] h here e = placed_none
all_placed f g (x ∷ xs) h here e = placed_both (g x) (in_all (map (λ z. (z, g z)) xs)) (h.0 here (left_none (f x here) (each (map f xs) here) e)) (all_placed f g xs h.1 here (right_none (f x here) (each (map f xs) here) e))

every_parameter : (xs : List Parameter) → Every (λ x. Placed (found.in_parameter x)) xs
every_parameter [] = tt
every_parameter (x ∷ xs) = (parameter-placed x, every_parameter xs)

def_placed : (number : ℕ) (ps : List Parameter) (body : List Statement) → in_statements body of_function ≡ [] → Placed (definition number ps (Statements body))
unfolding definition
def_placed number ps body e = record { holds = (e, tt) }

abbrev SuchForm : Type 0
SuchForm = form.Form-F ((x : Form) × PF x) ((x : Arm) × PB x) ((x : Statement) × PX x)

abbrev bareForm : SuchForm → form.Form-F Form Arm Statement
bareForm y = form_folds.map-Form ((x : Form) × PF x) ((x : Arm) × PB x) ((x : Statement) × PX x) Form Arm Statement (λ z. z.0) (λ z. z.0) (λ z. z.0) y

abbrev SuchArm : Type 0
SuchArm = form.Arm-F ((x : Form) × PF x) ((x : Arm) × PB x) ((x : Statement) × PX x)

abbrev bareArm : SuchArm → form.Arm-F Form Arm Statement
bareArm y = form_folds.map-Arm ((x : Form) × PF x) ((x : Arm) × PB x) ((x : Statement) × PX x) Form Arm Statement (λ z. z.0) (λ z. z.0) (λ z. z.0) y

abbrev SuchStatement : Type 0
SuchStatement = form.Statement-F ((x : Form) × PF x) ((x : Arm) × PB x) ((x : Statement) × PX x)

abbrev bareStatement : SuchStatement → form.Statement-F Form Arm Statement
bareStatement y = form_folds.map-Statement ((x : Form) × PF x) ((x : Arm) × PB x) ((x : Statement) × PX x) Form Arm Statement (λ z. z.0) (λ z. z.0) (λ z. z.0) y

-- what is misplaced in a form, by its parts
form_misplaced : (y : SuchForm) (at : Position) (here : StatementContext) → in_form (roll-Form (bareForm y)) at here ≡ []
    → form_step (form_folds.map-Form Form Arm Statement (Position → Misplaced) Misplaced Misplaced in_form in_arm in_statement (bareForm y)) at here ≡ []
form_misplaced y at here e = sym (ap (λ (g : Position → Misplaced). g at here) (form_folds.fold-roll-Form (Position → Misplaced) Misplaced Misplaced form_step arm_step statement_step (bareForm y))) ∙ e

form-made : (y : SuchForm) → PF (roll-Form (bareForm y))
form-made (form.Expression x) at here e = placed_is _ _ (ap (λ z. and (found.own_definition at z) (found.in_form (roll-Form (bareForm (form.Expression x))))) (out-roll-Form (bareForm (form.Expression x))) ∙ ap (λ z. and (found.own_definition at (bareForm (form.Expression x))) z) (para-roll-Form Found Found Found found.form_found found.arm_found found.statement_found (bareForm (form.Expression x)))) (placed_both _ _ (placed_none) (expression-placed x))
form-made (form.Assign t x) at here e = placed_is _ _ (ap (λ z. and (found.own_definition at z) (found.in_form (roll-Form (bareForm (form.Assign t x))))) (out-roll-Form (bareForm (form.Assign t x))) ∙ ap (λ z. and (found.own_definition at (bareForm (form.Assign t x))) z) (para-roll-Form Found Found Found found.form_found found.arm_found found.statement_found (bareForm (form.Assign t x)))) (placed_both _ _ (placed_none) (placed_both _ _ (target-placed t) (expression-placed x)))
form-made (form.Augment t op x) at here e = placed_is _ _ (ap (λ z. and (found.own_definition at z) (found.in_form (roll-Form (bareForm (form.Augment t op x))))) (out-roll-Form (bareForm (form.Augment t op x))) ∙ ap (λ z. and (found.own_definition at (bareForm (form.Augment t op x))) z) (para-roll-Form Found Found Found found.form_found found.arm_found found.statement_found (bareForm (form.Augment t op x)))) (placed_both _ _ (placed_none) (placed_both _ _ (target-placed t) (expression-placed x)))
form-made form.Pass at here e = placed_is _ _ (ap (λ z. and (found.own_definition at z) (found.in_form (roll-Form (bareForm form.Pass)))) (out-roll-Form (bareForm form.Pass)) ∙ ap (λ z. and (found.own_definition at (bareForm form.Pass)) z) (para-roll-Form Found Found Found found.form_found found.arm_found found.statement_found (bareForm form.Pass))) (placed_both _ _ (placed_none) (placed_none))
form-made form.Break at here e = placed_is _ _ (ap (λ z. and (found.own_definition at z) (found.in_form (roll-Form (bareForm form.Break)))) (out-roll-Form (bareForm form.Break)) ∙ ap (λ z. and (found.own_definition at (bareForm form.Break)) z) (para-roll-Form Found Found Found found.form_found found.arm_found found.statement_found (bareForm form.Break))) (placed_both _ _ (placed_none) (placed_none))
form-made form.Continue at here e = placed_is _ _ (ap (λ z. and (found.own_definition at z) (found.in_form (roll-Form (bareForm form.Continue)))) (out-roll-Form (bareForm form.Continue)) ∙ ap (λ z. and (found.own_definition at (bareForm form.Continue)) z) (para-roll-Form Found Found Found found.form_found found.arm_found found.statement_found (bareForm form.Continue))) (placed_both _ _ (placed_none) (placed_none))
form-made (form.Return None) at here e = placed_is _ _ (ap (λ z. and (found.own_definition at z) (found.in_form (roll-Form (bareForm (form.Return None))))) (out-roll-Form (bareForm (form.Return None))) ∙ ap (λ z. and (found.own_definition at (bareForm (form.Return None))) z) (para-roll-Form Found Found Found found.form_found found.arm_found found.statement_found (bareForm (form.Return None)))) (placed_both _ _ (placed_none) (placed_none))
form-made (form.Load l xs) at here e = placed_is _ _ (ap (λ z. and (found.own_definition at z) (found.in_form (roll-Form (bareForm (form.Load l xs))))) (out-roll-Form (bareForm (form.Load l xs))) ∙ ap (λ z. and (found.own_definition at (bareForm (form.Load l xs))) z) (para-roll-Form Found Found Found found.form_found found.arm_found found.statement_found (bareForm (form.Load l xs)))) (placed_both _ _ (placed_none) (placed_none))
form-made (form.Return (Some x)) at here e = placed_is _ _ (ap (λ z. and (found.own_definition at z) (found.in_form (roll-Form (bareForm (form.Return (Some x)))))) (out-roll-Form (bareForm (form.Return (Some x)))) ∙ ap (λ z. and (found.own_definition at (bareForm (form.Return (Some x)))) z) (para-roll-Form Found Found Found found.form_found found.arm_found found.statement_found (bareForm (form.Return (Some x))))) (placed_both _ _ (placed_none) (expression-placed x))
form-made (form.If cases otherwise) at here e = placed_is _ _ (ap (λ z. and (found.own_definition at z) (found.in_form (roll-Form (bareForm (form.If cases otherwise))))) (out-roll-Form (bareForm (form.If cases otherwise))) ∙ ap (λ z. and (found.own_definition at (bareForm (form.If cases otherwise))) z) (para-roll-Form Found Found Found found.form_found found.arm_found found.statement_found (bareForm (form.If cases otherwise)))) (placed_both _ _ (placed_none) (placed_both _ _ (all_placed in_arm found.in_arm _ (everyone PB cases) (of_if here) (left_none (each (map in_arm (map (λ z. z.0) cases)) (of_if here)) (each (map in_statement (map (λ z. z.0) otherwise)) (of_if here)) (form_misplaced (form.If cases otherwise) at here e))) (all_placed in_statement found.in_statement _ (everyone PX otherwise) (of_if here) (right_none (each (map in_arm (map (λ z. z.0) cases)) (of_if here)) (each (map in_statement (map (λ z. z.0) otherwise)) (of_if here)) (form_misplaced (form.If cases otherwise) at here e)))))
form-made (form.For t x body) at here e = placed_is _ _ (ap (λ z. and (found.own_definition at z) (found.in_form (roll-Form (bareForm (form.For t x body))))) (out-roll-Form (bareForm (form.For t x body))) ∙ ap (λ z. and (found.own_definition at (bareForm (form.For t x body))) z) (para-roll-Form Found Found Found found.form_found found.arm_found found.statement_found (bareForm (form.For t x body)))) (placed_both _ _ (placed_none) (placed_both _ _ (target-placed t) (placed_both _ _ (expression-placed x) (all_placed in_statement found.in_statement _ (everyone PX body) (of_loop here) (form_misplaced (form.For t x body) at here e)))))
form-made (form.Def x ps body) at here e = placed_is _ _ (ap (λ z. and (found.own_definition at z) (found.in_form (roll-Form (bareForm (form.Def x ps body))))) (out-roll-Form (bareForm (form.Def x ps body))) ∙ ap (λ z. and (found.own_definition at (bareForm (form.Def x ps body))) z) (para-roll-Form Found Found Found found.form_found found.arm_found found.statement_found (bareForm (form.Def x ps body)))) (placed_both _ _ (def_placed at.token ps _ (form_misplaced (form.Def x ps body) at here e)) (placed_both _ _ (placed_all found.in_parameter ps (every_parameter ps)) (all_placed in_statement found.in_statement _ (everyone PX body) of_function (form_misplaced (form.Def x ps body) at here e))))

arm-made : (y : SuchArm) → PB (roll-Arm (bareArm y))
arm-made y here e = placed_is _ _ (para-roll-Arm Found Found Found found.form_found found.arm_found found.statement_found (bareArm y)) (placed_both _ _ (expression-placed y.condition) (all_placed in_statement found.in_statement _ (everyone PX y.body) here (sym (ap (λ (g : Misplaced). g here) (form_folds.fold-roll-Arm (Position → Misplaced) Misplaced Misplaced form_step arm_step statement_step (bareArm y))) ∙ e)))

statement-made : (y : SuchStatement) → PX (roll-Statement (bareStatement y))
statement-made y here e = placed_is _ _ (para-roll-Statement Found Found Found found.form_found found.arm_found found.statement_found (bareStatement y)) (y.form.1 y.position here (sym (ap (λ (g : Misplaced). g here) (form_folds.fold-roll-Statement (Position → Misplaced) Misplaced Misplaced form_step arm_step statement_step (bareStatement y))) ∙ e))

statement-placed : (x : Statement) → PX x
statement-placed x = ind-Statement PF PB PX (λ x' y p. subst (λ z. PF (roll-Form z)) p (form-made y)) (λ x' y p. subst (λ z. PB (roll-Arm z)) p (arm-made y)) (λ x' y p. subst (λ z. PX (roll-Statement z)) p (statement-made y)) x

every_statement : (ss : List Statement) → Every PX ss
every_statement [] = tt
every_statement (s ∷ ss) = (statement-placed s, every_statement ss)

-- ---- a file

definitions_placed : (ss : List Statement) (here : StatementContext) → in_statements ss here ≡ [] → Every IsPlaced (outline ss).definitions
definitions_placed ss here e = (all_placed in_statement found.in_statement ss (every_statement ss) here e).holds

found_placed : (ds : List Definition) (number : ℕ) (d : Definition) → Every IsPlaced ds → definition_in ds number ≡ Some d → BodyIsPlaced d.body
found_placed [] number d h e = absurd (let no : ⊥ = cc in no)
found_placed (x ∷ ds) number d h e = turn (nat_eq x.number number) (λ k. found_placed ds number d h.1 k) e
  where
    turn : (b : Bool) → (definition_in ds number ≡ Some d → BodyIsPlaced d.body) → (if b then Some x else definition_in ds number) ≡ Some d → BodyIsPlaced d.body
    turn true rest e = let same : x ≡ d = cc in subst (λ z. BodyIsPlaced z.body) same h.0
    turn false rest e = rest e

-- nothing is misplaced in the body of a definition of a file in which nothing is misplaced
pub bodies_placed : (ss : List Statement) (here : StatementContext) → in_statements ss here ≡ [] → (number : ℕ) (d : Definition) → definition_in (outline ss).definitions number ≡ Some d → BodyIsPlaced d.body
bodies_placed ss here e number d is = found_placed (outline ss).definitions number d (definitions_placed ss here e) is
