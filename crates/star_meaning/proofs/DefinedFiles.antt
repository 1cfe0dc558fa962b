-- The definition with a number is at that number, in a file.
use Rattle.std.proofs.Common.{◌≡◌, ℕ, zero, suc, ◌+◌, ◌<◌, List, [], ◌∷◌, ◌++◌, length, map, slice_get, slice_index_or, Option, Some, None, refl, ap, sym, ◌∙◌, subst, arith, nat_eq, Bool, true, false, if◌then◌else◌}
use Rattle.std.specs.List.{Contains, find}
use Rattle.std.specs.Option.{option_and_then, option_flatten, option_map}
use Rattle.star_tree.specs.declared.tree.LoadedName.{LoadedName}
use Rattle.star_tree.specs.declared.tree.Name.{Name}
use Rattle.star_tree.specs.declared.tree.Parameter.{Parameter}
use Rattle.star_tree.specs.declared.tree.Position.{Position}
use Rattle.star_tree.specs.declared.tree.Form.{Form, out-Form, roll-Form, out-roll-Form, para-roll-Form}
use Rattle.star_tree.specs.declared.tree.Arm.{Arm, roll-Arm, para-roll-Arm}
use Rattle.star_tree.specs.declared.tree.Statement.{Statement, roll-Statement, para-roll-Statement, ind-Statement}
use Rattle.star_tree.specs.declared.tree.Form.TheOpen as form
use Rattle.star_tree.specs.declared.tree.Form.TheFolds as form_folds
use Rattle.star_outline.specs.declared.outline.Found.{Found}
use Rattle.star_outline.specs.Definitions.{Statements, Definition, definition_in}
use Rattle.star_outline.specs.Outlines as found
use Rattle.star_outline.specs.Outlines.{Outline, and, definition, outline}
use Rattle.star_scope.specs.Uses.{Defined, OfForm, Use, Within, also, arm_uses, defined, each_use, form_uses, in_arm, in_expression, in_form, in_parameters, in_statement, in_target, inner_of, inside, loaded_uses, one_use, outer_of, statement_uses, uses}
use Rattle.star_meaning.specs.Program.{Setting, definition_of}
use Rattle.star_meaning.specs.Local.{Trees, outlines}
use Rattle.star_outline.specs.Definitions.{AllDiffer}
use Rattle.star_meaning.specs.Places.{Stands}
use Rattle.star_meaning.proofs.Agree.{Every}
use Rattle.star_meaning.proofs.AgreeParts.{DefinitionsStand, body_uses}
use Rattle.star_meaning.proofs.DefinedParts.{Inner, PP, Part, Standing, everyone, expression-part, found_all, parameter-part, part_all, part_also, part_both, part_definition, part_inner, part_inside, part_is, part_left, part_named, part_none, part_outer, part_right, part_swap, target-part}
use Rattle.star_meaning.proofs.UsesOf.{Sub, all, by, left, parameters_are, right}

abbrev PF : Form → Type 0
PF x = (at : Position) → Part (in_form x at.token) (and (found.own_definition at (out-Form x)) (found.in_form x))

abbrev PB : Arm → Type 0
PB x = Part (in_arm x) (found.in_arm x)

abbrev PX : Statement → Type 0
PX x = Part (in_statement x) (found.in_statement x)

every_parameter : (xs : List Parameter) → Every PP xs
every_parameter [] = tt
every_parameter (x ∷ xs) = (parameter-part x, every_parameter xs)

outer_part : (xs : List Parameter) → Part (outer_of (in_parameters xs)) (found_all found.in_parameter xs)
outer_part xs = subst (λ us. Part (outer_of us) (found_all found.in_parameter xs)) (parameters_are xs) (part_outer xs (every_parameter xs))

inner_part : (xs : List Parameter) → Part (inner_of (in_parameters xs)) (found_all found.in_parameter xs)
inner_part xs = subst (λ us. Part (inner_of us) (found_all found.in_parameter xs)) (parameters_are xs) (part_inner xs (every_parameter xs))

loaded_part : (xs : List LoadedName) (f : Found) → Part (loaded_uses xs) f
loaded_part [] f = part_none f
loaded_part (x ∷ xs) f = part_also (one_use x.local) (loaded_uses xs) f (part_named x.local f) (loaded_part xs f)

abbrev SuchForm : Type 0
SuchForm = form.Form-F ((x : Form) × PF x) ((x : Arm) × PB x) ((x : Statement) × PX x)

abbrev bareForm : SuchForm → form.Form-F Form Arm Statement
bareForm y = form_folds.map-Form ((x : Form) × PF x) ((x : Arm) × PB x) ((x : Statement) × PX x) Form Arm Statement (λ z. z.0) (λ z. z.0) (λ z. z.0) y

abbrev SuchArm : Type 0
SuchArm = form.Arm-F ((x : Form) × PF x) ((x : Arm) × PB x) ((x : Statement) × PX x)

abbrev bareArm : SuchArm → form.Arm-F Form Arm Statement
bareArm y = form_folds.map-Arm ((x : Form) × PF x) ((x : Arm) × PB x) ((x : Statement) × PX x) Form Arm Statement (λ z. z.0) (λ z. z.0) (λ z. z.0) y

abbrev SuchStatement : Type 0
SuchStatement = form.Statement-F ((x : Form) × PF x) ((x : Arm) × PB x) ((x : Statement) × PX x)

abbrev bareStatement : SuchStatement → form.Statement-F Form Arm Statement
bareStatement y = form_folds.map-Statement ((x : Form) × PF x) ((x : Arm) × PB x) ((x : Statement) × PX x) Form Arm Statement (λ z. z.0) (λ z. z.0) (λ z. z.0) y

def_inner : (token : ℕ) (o : Within) (xs : List Parameter) (body : List Statement) (c : List ℕ) (ws : List Use) → Sub (also o (also (outer_of (in_parameters xs)) (inside token (also (inner_of (in_parameters xs)) (each_use (map in_statement body))))) c) ws → Inner xs (Statements body) token c ws
def_inner token o xs body c ws s =
    let i = inner_of (in_parameters xs) ((1 + token) ∷ c) in
    let e = each_use (map in_statement body) ((1 + token) ∷ c) in
    let q = right (outer_of (in_parameters xs) c) (inner_of (in_parameters xs) ((1 + token) ∷ c) ++ each_use (map in_statement body) ((1 + token) ∷ c)) ws (right (o c) (outer_of (in_parameters xs) c ++ (inner_of (in_parameters xs) ((1 + token) ∷ c) ++ each_use (map in_statement body) ((1 + token) ∷ c))) ws s) in
    (left i e ws q, right i e ws q)

def_part : (token : ℕ) (x : Name) (xs : List Parameter) (body : List Statement) → Every PX body
    → Part (also (defined token) (also (one_use x) (also (outer_of (in_parameters xs)) (inside token (also (inner_of (in_parameters xs)) (each_use (map in_statement body)))))))
    (and (definition token xs (Statements body)) (and (found_all found.in_parameter xs) (found_all found.in_statement body)))
def_part token x xs body h =
    let o = outer_of (in_parameters xs) in
    let i = inner_of (in_parameters xs) in
    let e = each_use (map in_statement body) in
    let fp = found_all found.in_parameter xs in
    let fb = found_all found.in_statement body in
    let g = and fp fb in
    part_definition token xs (Statements body) (also (one_use x) (also o (inside token (also i e)))) g
    (part_also (one_use x) (also o (inside token (also i e))) g (part_named x g)
    (part_also o (inside token (also i e)) g (part_left o fp fb (outer_part xs)) (part_inside token (also i e) g (part_both i e fp fb (inner_part xs) (part_all in_statement found.in_statement body h)))))
    (λ c ws s. def_inner token (one_use x) xs body c ws s)

form-made : (y : SuchForm) → PF (roll-Form (bareForm y))
form-made (form.Expression e) at = part_is _ _ _ _ (ap (λ (z : OfForm). z at.token) (form_folds.fold-roll-Form OfForm Within Within form_uses arm_uses statement_uses (bareForm (form.Expression e)))) (ap (λ z. and (found.own_definition at z) (found.in_form (roll-Form (bareForm (form.Expression e))))) (out-roll-Form (bareForm (form.Expression e))) ∙ ap (λ z. and (found.own_definition at (bareForm (form.Expression e))) z) (para-roll-Form Found Found Found found.form_found found.arm_found found.statement_found (bareForm (form.Expression e)))) (part_right _ found.nothing _ (expression-part e))
form-made (form.Assign t e) at = part_is _ _ _ _ (ap (λ (z : OfForm). z at.token) (form_folds.fold-roll-Form OfForm Within Within form_uses arm_uses statement_uses (bareForm (form.Assign t e)))) (ap (λ z. and (found.own_definition at z) (found.in_form (roll-Form (bareForm (form.Assign t e))))) (out-roll-Form (bareForm (form.Assign t e))) ∙ ap (λ z. and (found.own_definition at (bareForm (form.Assign t e))) z) (para-roll-Form Found Found Found found.form_found found.arm_found found.statement_found (bareForm (form.Assign t e)))) (part_right _ found.nothing _ (part_swap (in_target t) (in_expression e) (found.in_target t) (found.in_expression e) (target-part t) (expression-part e)))
form-made (form.Augment t op e) at = part_is _ _ _ _ (ap (λ (z : OfForm). z at.token) (form_folds.fold-roll-Form OfForm Within Within form_uses arm_uses statement_uses (bareForm (form.Augment t op e)))) (ap (λ z. and (found.own_definition at z) (found.in_form (roll-Form (bareForm (form.Augment t op e))))) (out-roll-Form (bareForm (form.Augment t op e))) ∙ ap (λ z. and (found.own_definition at (bareForm (form.Augment t op e))) z) (para-roll-Form Found Found Found found.form_found found.arm_found found.statement_found (bareForm (form.Augment t op e)))) (part_right _ found.nothing _ (part_both (in_target t) (in_expression e) (found.in_target t) (found.in_expression e) (target-part t) (expression-part e)))
form-made form.Pass at = part_is _ _ _ _ (ap (λ (z : OfForm). z at.token) (form_folds.fold-roll-Form OfForm Within Within form_uses arm_uses statement_uses (bareForm form.Pass))) (ap (λ z. and (found.own_definition at z) (found.in_form (roll-Form (bareForm form.Pass)))) (out-roll-Form (bareForm form.Pass)) ∙ ap (λ z. and (found.own_definition at (bareForm form.Pass)) z) (para-roll-Form Found Found Found found.form_found found.arm_found found.statement_found (bareForm form.Pass))) (part_right _ found.nothing _ (part_none _))
form-made form.Break at = part_is _ _ _ _ (ap (λ (z : OfForm). z at.token) (form_folds.fold-roll-Form OfForm Within Within form_uses arm_uses statement_uses (bareForm form.Break))) (ap (λ z. and (found.own_definition at z) (found.in_form (roll-Form (bareForm form.Break)))) (out-roll-Form (bareForm form.Break)) ∙ ap (λ z. and (found.own_definition at (bareForm form.Break)) z) (para-roll-Form Found Found Found found.form_found found.arm_found found.statement_found (bareForm form.Break))) (part_right _ found.nothing _ (part_none _))
form-made form.Continue at = part_is _ _ _ _ (ap (λ (z : OfForm). z at.token) (form_folds.fold-roll-Form OfForm Within Within form_uses arm_uses statement_uses (bareForm form.Continue))) (ap (λ z. and (found.own_definition at z) (found.in_form (roll-Form (bareForm form.Continue)))) (out-roll-Form (bareForm form.Continue)) ∙ ap (λ z. and (found.own_definition at (bareForm form.Continue)) z) (para-roll-Form Found Found Found found.form_found found.arm_found found.statement_found (bareForm form.Continue))) (part_right _ found.nothing _ (part_none _))
form-made (form.Return None) at = part_is _ _ _ _ (ap (λ (z : OfForm). z at.token) (form_folds.fold-roll-Form OfForm Within Within form_uses arm_uses statement_uses (bareForm (form.Return None)))) (ap (λ z. and (found.own_definition at z) (found.in_form (roll-Form (bareForm (form.Return None))))) (out-roll-Form (bareForm (form.Return None))) ∙ ap (λ z. and (found.own_definition at (bareForm (form.Return None))) z) (para-roll-Form Found Found Found found.form_found found.arm_found found.statement_found (bareForm (form.Return None)))) (part_right _ found.nothing _ (part_none _))
form-made (form.Return (Some e)) at = part_is _ _ _ _ (ap (λ (z : OfForm). z at.token) (form_folds.fold-roll-Form OfForm Within Within form_uses arm_uses statement_uses (bareForm (form.Return (Some e))))) (ap (λ z. and (found.own_definition at z) (found.in_form (roll-Form (bareForm (form.Return (Some e)))))) (out-roll-Form (bareForm (form.Return (Some e)))) ∙ ap (λ z. and (found.own_definition at (bareForm (form.Return (Some e)))) z) (para-roll-Form Found Found Found found.form_found found.arm_found found.statement_found (bareForm (form.Return (Some e))))) (part_right _ found.nothing _ (expression-part e))
form-made (form.Load l xs) at = part_is _ _ _ _ (ap (λ (z : OfForm). z at.token) (form_folds.fold-roll-Form OfForm Within Within form_uses arm_uses statement_uses (bareForm (form.Load l xs)))) (ap (λ z. and (found.own_definition at z) (found.in_form (roll-Form (bareForm (form.Load l xs))))) (out-roll-Form (bareForm (form.Load l xs))) ∙ ap (λ z. and (found.own_definition at (bareForm (form.Load l xs))) z) (para-roll-Form Found Found Found found.form_found found.arm_found found.statement_found (bareForm (form.Load l xs)))) (part_right _ found.nothing _ (loaded_part xs _))
form-made (form.If cases otherwise) at = part_is _ _ _ _ (ap (λ (z : OfForm). z at.token) (form_folds.fold-roll-Form OfForm Within Within form_uses arm_uses statement_uses (bareForm (form.If cases otherwise)))) (ap (λ z. and (found.own_definition at z) (found.in_form (roll-Form (bareForm (form.If cases otherwise))))) (out-roll-Form (bareForm (form.If cases otherwise))) ∙ ap (λ z. and (found.own_definition at (bareForm (form.If cases otherwise))) z) (para-roll-Form Found Found Found found.form_found found.arm_found found.statement_found (bareForm (form.If cases otherwise)))) (part_right _ found.nothing _ (part_both (each_use (map in_arm (map (λ z. z.0) cases))) (each_use (map in_statement (map (λ z. z.0) otherwise))) (found_all found.in_arm (map (λ z. z.0) cases)) (found_all found.in_statement (map (λ z. z.0) otherwise)) (part_all in_arm found.in_arm _ (everyone PB cases)) (part_all in_statement found.in_statement _ (everyone PX otherwise))))
form-made (form.For t e body) at = part_is _ _ _ _ (ap (λ (z : OfForm). z at.token) (form_folds.fold-roll-Form OfForm Within Within form_uses arm_uses statement_uses (bareForm (form.For t e body)))) (ap (λ z. and (found.own_definition at z) (found.in_form (roll-Form (bareForm (form.For t e body))))) (out-roll-Form (bareForm (form.For t e body))) ∙ ap (λ z. and (found.own_definition at (bareForm (form.For t e body))) z) (para-roll-Form Found Found Found found.form_found found.arm_found found.statement_found (bareForm (form.For t e body)))) (part_right _ found.nothing _ (part_also (in_expression e) (also (in_target t) (each_use (map in_statement (map (λ z. z.0) body)))) (and (found.in_target t) (and (found.in_expression e) (found_all found.in_statement (map (λ z. z.0) body)))) (part_right (in_expression e) (found.in_target t) (and (found.in_expression e) (found_all found.in_statement (map (λ z. z.0) body))) (part_left (in_expression e) (found.in_expression e) (found_all found.in_statement (map (λ z. z.0) body)) (expression-part e))) (part_both (in_target t) (each_use (map in_statement (map (λ z. z.0) body))) (found.in_target t) (and (found.in_expression e) (found_all found.in_statement (map (λ z. z.0) body))) (target-part t) (part_right (each_use (map in_statement (map (λ z. z.0) body))) (found.in_expression e) (found_all found.in_statement (map (λ z. z.0) body)) (part_all in_statement found.in_statement _ (everyone PX body))))))
form-made (form.Def x ps body) at = part_is _ _ _ _ (ap (λ (z : OfForm). z at.token) (form_folds.fold-roll-Form OfForm Within Within form_uses arm_uses statement_uses (bareForm (form.Def x ps body)))) (ap (λ z. and (found.own_definition at z) (found.in_form (roll-Form (bareForm (form.Def x ps body))))) (out-roll-Form (bareForm (form.Def x ps body))) ∙ ap (λ z. and (found.own_definition at (bareForm (form.Def x ps body))) z) (para-roll-Form Found Found Found found.form_found found.arm_found found.statement_found (bareForm (form.Def x ps body)))) (def_part at.token x ps _ (everyone PX body))

arm-made : (y : SuchArm) → PB (roll-Arm (bareArm y))
arm-made y = part_is _ _ _ _ (form_folds.fold-roll-Arm OfForm Within Within form_uses arm_uses statement_uses (bareArm y)) (para-roll-Arm Found Found Found found.form_found found.arm_found found.statement_found (bareArm y)) (part_both (in_expression y.condition) _ (found.in_expression y.condition) _ (expression-part y.condition) (part_all in_statement found.in_statement _ (everyone PX y.body)))

statement-made : (y : SuchStatement) → PX (roll-Statement (bareStatement y))
statement-made y = part_is _ _ _ _ (form_folds.fold-roll-Statement OfForm Within Within form_uses arm_uses statement_uses (bareStatement y)) (para-roll-Statement Found Found Found found.form_found found.arm_found found.statement_found (bareStatement y)) (y.form.1 y.position)

statement-part : (x : Statement) → PX x
statement-part x = ind-Statement PF PB PX (λ x' y p. subst (λ z. PF (roll-Form z)) p (form-made y)) (λ x' y p. subst (λ z. PB (roll-Arm z)) p (arm-made y)) (λ x' y p. subst (λ z. PX (roll-Statement z)) p (statement-made y)) x

-- ---- a file

every_statement : (ss : List Statement) → Every PX ss
every_statement [] = tt
every_statement (s ∷ ss) = (statement-part s, every_statement ss)

pub uses_are : (ss : List Statement) → uses ss ≡ each_use (map in_statement ss) (0 ∷ [])
uses_are [] = refl
uses_are (s ∷ ss) = ap (λ us. in_statement s (0 ∷ []) ++ us) (uses_are ss)

standing : (ss : List Statement) (number : ℕ) (b : List ℕ) → Contains (uses ss) (Defined number b) → Standing (outline ss).definitions (uses ss) number b
standing ss number b h =
    (part_all in_statement found.in_statement ss (every_statement ss)).holds (0 ∷ []) (uses ss) (by _ _ (uses ss) (uses_are ss) (all (uses ss))) number b (subst (λ us. Contains us (Defined number b)) (uses_are ss) h)

-- ---- one definition for each number

abbrev number_of : Definition → ℕ
number_of d = d.number

in_map : (ds : List Definition) (x y : Definition) (k : ℕ) → k < length ds → slice_index_or ds k y ≡ x → Contains (map number_of ds) (number_of x)
in_map [] x y k l e = absurd (omega (arith, l))
in_map (d ∷ ds) x y zero l e = (0, omega arith, ap number_of e)
in_map (d ∷ ds) x y (suc k) l e = let r = in_map ds x y k (omega (arith, l)) e in (suc r.0, omega (arith, r.1), r.2)

equal_numbers : (m n : ℕ) → m ≡ n → nat_eq m n ≡ true
equal_numbers m n e = grind (arith, e)

numbers_equal : (m n : ℕ) → nat_eq m n ≡ true → m ≡ n
numbers_equal m n e = grind (arith, e)

some_is : (x y : Definition) → Some x ≡ Some y → x ≡ y
some_is x y e = cc

not_both : (b : Bool) → b ≡ true → b ≡ false → ⊥
not_both true h k = cc
not_both false h k = cc

one_at : (b : Bool) (y : Definition) (ds : List Definition) (n : ℕ) (x d : Definition) (k : ℕ) → nat_eq y.number n ≡ b → (Contains (map number_of ds) y.number → ⊥) → k < length (y ∷ ds) → slice_index_or (y ∷ ds) k x ≡ x → x.number ≡ n
    → (k < length (y ∷ ds) → ((j : ℕ) → k ≡ suc j → find (λ d. nat_eq d.number n) ds ≡ Some d → x ≡ d))
    → (if b then Some y else find (λ d. nat_eq d.number n) ds) ≡ Some d → x ≡ d
one_at true y ds n x d zero q other l e h more is = sym e ∙ some_is y d is
one_at true y ds n x d (suc k) q other l e h more is = elim (other (subst (λ z. Contains (map number_of ds) z) (h ∙ sym (numbers_equal y.number n q)) (in_map ds x x k (omega (arith, l)) e))) [ ]
one_at false y ds n x d zero q other l e h more is = elim (not_both (nat_eq y.number n) (equal_numbers y.number n (ap number_of e ∙ h)) q) [ ]
one_at false y ds n x d (suc k) q other l e h more is = more l k refl is

one_number : (ds : List Definition) (n : ℕ) (x d : Definition) (k : ℕ) → AllDiffer (map number_of ds) → k < length ds → slice_index_or ds k x ≡ x → x.number ≡ n → definition_in ds n ≡ Some d → x ≡ d
one_number [] n x d k a l e h is = absurd (omega (arith, l))
one_number (y ∷ ds) n x d zero a l e h is = one_at (nat_eq y.number n) y ds n x d zero refl a.0 l e h (λ l j q. absurd (omega (arith, q))) is
one_number (y ∷ ds) n x d (suc k) a l e h is = one_at (nat_eq y.number n) y ds n x d (suc k) refl a.0 l e h (λ l j q f. one_number ds n x d k a.1 (omega (arith, l)) e h f) is

get_map : {A B : Type 0} (f : A → B) (xs : List A) (i : ℕ) → slice_get (map f xs) i ≡ option_map f (slice_get xs i)
get_map f [] i = refl
get_map f (x ∷ xs) zero = refl
get_map f (x ∷ xs) (suc i) = get_map f xs i

known_definition : (trees : Trees) (w : Setting) (file number : ℕ) (ss : List Statement) → w.outlines ≡ outlines trees → Stands trees file ss → definition_of w file number ≡ definition_in (outline ss).definitions number
known_definition trees w file number ss o h =
    let at : slice_get w.outlines file ≡ Some (Some (outline ss)) = ap (λ os. slice_get os file) o ∙ get_map (option_map outline) trees file ∙ ap (option_map (option_map outline)) h in
    ap (λ (z : Option (Option Outline)). option_and_then (λ o. definition_in o.definitions number) (option_flatten z)) at

pub definitions_stand : (trees : Trees) (w : Setting) → w.outlines ≡ outlines trees → ((file : ℕ) (ss : List Statement) → Stands trees file ss → AllDiffer (map number_of (outline ss).definitions)) → DefinitionsStand trees w
definitions_stand trees w o a file ss number b d stands h is =
    let x = standing ss number b h in
    let same : x.one ≡ d = one_number (outline ss).definitions number x.one d x.among.0 (a file ss stands) x.among.1 x.among.2 x.is (sym (known_definition trees w file number ss o stands) ∙ is) in
    (subst (λ (z : Definition). Sub (inner_of (in_parameters z.parameters) ((1 + number) ∷ b)) (uses ss)) same x.inner, subst (λ (z : Definition). Sub (body_uses z.body ((1 + number) ∷ b)) (uses ss)) same x.body)
