-- The names of a statement, one level at a time.
use Rattle.std.proofs.Common.{◌≡◌, ◌+◌, ℕ, List, [], ◌∷◌, ◌++◌, refl, ap, sym, ◌∙◌}
use Rattle.star_tree.specs.declared.tree.Arm.{Arm, out-Arm}
use Rattle.star_tree.specs.declared.tree.Form.{Form, roll-Form}
use Rattle.star_tree.specs.declared.tree.Form.TheFolds.{fold-roll-Form, fold_out-Arm, fold_out-Statement}
use Rattle.star_tree.specs.declared.tree.Form.TheOpen as form
use Rattle.star_tree.specs.declared.tree.Form.TheVariants as v
use Rattle.star_tree.specs.declared.tree.Literal.{Literal}
use Rattle.star_tree.specs.declared.tree.LoadedName.{LoadedName}
use Rattle.star_tree.specs.declared.tree.Name.{Name}
use Rattle.star_tree.specs.declared.tree.Parameter.{Parameter}
use Rattle.star_tree.specs.declared.tree.Statement.{Statement, out-Statement}
use Rattle.star_outline.specs.Syntax.{StatementForm}
use Rattle.star_scope.specs.Uses.{Defined, Named, OfForm, Within, all_uses, arm_uses, default_uses, form_uses, in_arm, in_expression, in_form, in_parameters, in_returned, in_statement, in_target, inner_of, loaded_use, loaded_uses, outer_of, parameter_name_uses, statement_uses, uses}

defaults_in : (ps : List Parameter) (chain : List ℕ) → outer_of (in_parameters ps) chain ≡ all_uses default_uses ps chain
defaults_in [] chain = refl
defaults_in (q ∷ qs) chain = ap (λ us. default_uses q chain ++ us) (defaults_in qs chain)

names_in : (ps : List Parameter) (chain : List ℕ) → inner_of (in_parameters ps) chain ≡ all_uses parameter_name_uses ps chain
names_in [] chain = refl
names_in (q ∷ qs) chain = ap (λ us. parameter_name_uses q chain ++ us) (names_in qs chain)

loaded_in : (ns : List LoadedName) (chain : List ℕ) → loaded_uses ns chain ≡ all_uses loaded_use ns chain
loaded_in [] chain = refl
loaded_in (n ∷ ns) chain = ap (λ us. Named n.local chain ∷ us) (loaded_in ns chain)

pub of_file : (ss : List Statement) → uses ss ≡ all_uses in_statement ss (0 ∷ [])
of_file [] = refl
of_file (s ∷ ss) = ap (λ us. in_statement s (0 ∷ []) ++ us) (of_file ss)

abbrev pub form_level : StatementForm → OfForm
form_level (form.Expression x) token chain = in_expression x chain
form_level (form.Assign y x) token chain = in_expression x chain ++ in_target y chain
form_level (form.Augment y op x) token chain = in_target y chain ++ in_expression x chain
form_level form.Pass token chain = []
form_level form.Break token chain = []
form_level form.Continue token chain = []
form_level (form.Return o) token chain = in_returned o chain
form_level (form.Load l ns) token chain = loaded_uses ns chain
form_level (form.If arms otherwise) token chain = all_uses in_arm arms chain ++ all_uses in_statement otherwise chain
form_level (form.For y x body) token chain = in_expression x chain ++ (in_target y chain ++ all_uses in_statement body chain)
form_level (form.Def n ps body) token chain = Defined token chain ∷ (Named n chain ∷ (outer_of (in_parameters ps) chain ++ (inner_of (in_parameters ps) ((1 + token) ∷ chain) ++ all_uses in_statement body ((1 + token) ∷ chain))))

-- (a clause with a form comes first, so that the last one is read at each form by itself)
step : (l : StatementForm) (token : ℕ) (chain : List ℕ) → in_form (roll-Form l) token chain ≡ form_level l token chain
step (form.Expression x) token chain = ap (λ (w : OfForm). w token chain) (fold-roll-Form OfForm Within Within form_uses arm_uses statement_uses (form.Expression x))
step l token chain = ap (λ (w : OfForm). w token chain) (fold-roll-Form OfForm Within Within form_uses arm_uses statement_uses l)

pub of : (x : Form) (l : StatementForm) (token : ℕ) (chain : List ℕ) → x ≡ roll-Form l → in_form x token chain ≡ form_level l token chain
of x l token chain is = ap (λ y. in_form y token chain) is ∙ step l token chain

pub of_load : (x : Form) (l : Literal) (ns : List LoadedName) → x ≡ v.Load l ns → (token : ℕ) (chain : List ℕ) → in_form x token chain ≡ all_uses loaded_use ns chain
of_load x l ns is token chain = of x (form.Load l ns) token chain (is ∙ sym (v.rolls-Load l ns)) ∙ loaded_in ns chain

pub of_def : (x : Form) (n : Name) (ps : List Parameter) (body : List Statement) → x ≡ v.Def n ps body → (token : ℕ) (chain : List ℕ)
    → in_form x token chain ≡ Defined token chain ∷ (Named n chain ∷ (all_uses default_uses ps chain ++ (all_uses parameter_name_uses ps ((1 + token) ∷ chain) ++ all_uses in_statement body ((1 + token) ∷ chain))))
of_def x n ps body is token chain =
    of x (form.Def n ps body) token chain (is ∙ sym (v.rolls-Def n ps body))
    ∙ ap (λ us. Defined token chain ∷ (Named n chain ∷ (us ++ (inner_of (in_parameters ps) ((1 + token) ∷ chain) ++ all_uses in_statement body ((1 + token) ∷ chain))))) (defaults_in ps chain)
    ∙ ap (λ us. Defined token chain ∷ (Named n chain ∷ (all_uses default_uses ps chain ++ (us ++ all_uses in_statement body ((1 + token) ∷ chain))))) (names_in ps ((1 + token) ∷ chain))

pub arm_opened : (a : Arm) (chain : List ℕ) → in_arm a chain ≡ in_expression (out-Arm a).condition chain ++ all_uses in_statement (out-Arm a).body chain
arm_opened a chain = ap (λ (w : Within). w chain) (fold_out-Arm OfForm Within Within form_uses arm_uses statement_uses a)

pub statement_opened : (s : Statement) (chain : List ℕ) → in_statement s chain ≡ in_form (out-Statement s).form (out-Statement s).position.token chain
statement_opened s chain = ap (λ (w : Within). w chain) (fold_out-Statement OfForm Within Within form_uses arm_uses statement_uses s)
