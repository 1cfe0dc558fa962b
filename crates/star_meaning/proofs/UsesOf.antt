-- The names and definitions in a part of the tree, one level at a time.
use Rattle.std.proofs.Common.{◌≡◌, ℕ, List, [], ◌∷◌, ◌++◌, refl, ap, sym, ◌∙◌, map, arith, subst}
use Rattle.std.specs.List.{Contains}
use Rattle.std.proofs.lemmas.List.Elements.{Contains-append_left, Contains-append_right}
use Rattle.star_tree.specs.declared.tree.Argument.{Argument, out-Argument, roll-Argument, roll-out-Argument}
use Rattle.star_tree.specs.declared.tree.Clause.{Clause, out-Clause, roll-Clause, roll-out-Clause}
use Rattle.star_tree.specs.declared.tree.Expression.{Expression, out-Expression, roll-out-Expression}
use Rattle.star_tree.specs.declared.tree.Parameter.{Parameter, out-Parameter, roll-Parameter, roll-out-Parameter}
use Rattle.star_tree.specs.declared.tree.Target.{Target, out-Target, roll-Target, roll-out-Target}
use Rattle.star_tree.specs.declared.tree.Argument.TheOpen as tree
use Rattle.star_tree.specs.declared.tree.Argument.TheFolds.{fold-roll-Argument, fold-roll-Clause, fold-roll-Parameter, fold-roll-Target}
use Rattle.star_tree.specs.declared.tree.Form.{Form, out-Form, roll-out-Form}
use Rattle.star_tree.specs.declared.tree.Statement.{Statement, out-Statement}
use Rattle.star_outline.specs.Syntax.{ArgumentForm, ClauseForm, ParameterForm, TargetForm, argument, clause, expression, form_of, parameter, position_of, target}
use Rattle.star_scope.specs.Uses.{ClauseUses, ParameterUses, Use, Within, all_uses, argument_uses, clause_uses, clauses_uses, each_use, entry_uses, expression_uses, in_argument, in_clause, in_expression, in_form, in_parameter, in_parameters, in_statement, in_target, one_use, parameter_uses, target_uses}
use Rattle.star_scope.proofs.UseForms.{expression_level, of as by_level}
use Rattle.star_scope.proofs.StatementForms.{form_level, of as by_form, statement_opened}
use Rattle.star_meaning.proofs.Agree.{Every}

-- each use of the first list is in the second
pub record Sub (us vs : List Use) : Type 0 where
  pub has : (u : Use) → Contains us u → Contains vs u

pub all : (us : List Use) → Sub us us
all us = record { has = λ u h. h }

pub left : (us vs ws : List Use) → Sub (us ++ vs) ws → Sub us ws
left us vs ws h = record { has = λ u c. h.has u (Contains-append_left us vs u c) }

pub right : (us vs ws : List Use) → Sub (us ++ vs) ws → Sub vs ws
right us vs ws h = record { has = λ u c. h.has u (Contains-append_right us vs u c) }

pub first : (v : Use) (us ws : List Use) → Sub (v ∷ us) ws → Contains ws v
first v us ws h = h.has v (0, omega arith, refl)

pub rest : (v : Use) (us ws : List Use) → Sub (v ∷ us) ws → Sub us ws
rest v us ws h = record { has = λ u c. h.has u (Contains-append_right (v ∷ []) us u c) }

pub by : (us vs ws : List Use) → us ≡ vs → Sub us ws → Sub vs ws
by us vs ws e h = subst (λ us. Sub us ws) e h

pub every : {A : Type 0} (g : A → Within) (xs : List A) (chain : List ℕ) (ws : List Use) → Sub (each_use (map g xs) chain) ws → Every (λ x. Sub (g x chain) ws) xs
every g [] chain ws h = tt
every g (x ∷ xs) chain ws h = (left _ _ ws h, every g xs chain ws (right _ _ ws h))

pub parameters_are : (ps : List Parameter) → map in_parameter ps ≡ in_parameters ps
parameters_are [] = refl
parameters_are (q ∷ qs) = ap (λ us. in_parameter q ∷ us) (parameters_are qs)

pub of_expression : (x : Expression) (chain : List ℕ) → in_expression x chain ≡ expression_level (expression x) chain
of_expression x chain = by_level x (out-Expression x) chain (sym (roll-out-Expression x))

abbrev pub argument_level : ArgumentForm → Within
argument_level (tree.Positional e) chain = in_expression e chain
argument_level (tree.Named n e) chain = in_expression e chain
argument_level (tree.Argument-F.Argument::Star e) chain = in_expression e chain
argument_level (tree.Argument-F.Argument::StarStar e) chain = in_expression e chain

-- (a clause with a form comes first, so that the last one is read at each form by itself)
argument_step : (l : ArgumentForm) (chain : List ℕ) → in_argument (roll-Argument l) chain ≡ argument_level l chain
argument_step (tree.Positional e) chain = ap (λ (w : Within). w chain) (fold-roll-Argument Within Within Within ParameterUses Within ClauseUses Within argument_uses clause_uses expression_uses parameter_uses target_uses clauses_uses entry_uses (tree.Positional e))
argument_step l chain = ap (λ (w : Within). w chain) (fold-roll-Argument Within Within Within ParameterUses Within ClauseUses Within argument_uses clause_uses expression_uses parameter_uses target_uses clauses_uses entry_uses l)

pub of_argument : (x : Argument) (chain : List ℕ) → in_argument x chain ≡ argument_level (argument x) chain
of_argument x chain = ap (λ y. in_argument y chain) (sym (roll-out-Argument x)) ∙ argument_step (out-Argument x) chain

abbrev pub clause_level : ClauseForm → Within
clause_level (tree.For t e) chain = in_target t chain ++ in_expression e chain
clause_level (tree.If e) chain = in_expression e chain

clause_step : (l : ClauseForm) (chain : List ℕ) → in_clause (roll-Clause l) chain ≡ clause_level l chain
clause_step (tree.For t e) chain = ap (λ (w : Within). w chain) (fold-roll-Clause Within Within Within ParameterUses Within ClauseUses Within argument_uses clause_uses expression_uses parameter_uses target_uses clauses_uses entry_uses (tree.For t e))
clause_step (tree.If e) chain = ap (λ (w : Within). w chain) (fold-roll-Clause Within Within Within ParameterUses Within ClauseUses Within argument_uses clause_uses expression_uses parameter_uses target_uses clauses_uses entry_uses (tree.If e))

pub of_clause : (x : Clause) (chain : List ℕ) → in_clause x chain ≡ clause_level (clause x) chain
of_clause x chain = ap (λ y. in_clause y chain) (sym (roll-out-Clause x)) ∙ clause_step (out-Clause x) chain

abbrev pub target_level : TargetForm → Within
target_level (tree.Target-F.Target::Name n) chain = one_use n chain
target_level (tree.Target-F.Target::Index a b) chain = in_expression a chain ++ in_expression b chain
target_level (tree.Target-F.Target::Tuple ts) chain = all_uses in_target ts chain
target_level (tree.Target-F.Target::List ts) chain = all_uses in_target ts chain

-- (a clause with a form comes first, so that the last one is read at each form by itself)
target_step : (l : TargetForm) (chain : List ℕ) → in_target (roll-Target l) chain ≡ target_level l chain
target_step (tree.Target-F.Target::Name n) chain = ap (λ (w : Within). w chain) (fold-roll-Target Within Within Within ParameterUses Within ClauseUses Within argument_uses clause_uses expression_uses parameter_uses target_uses clauses_uses entry_uses (tree.Target-F.Target::Name n))
target_step l chain = ap (λ (w : Within). w chain) (fold-roll-Target Within Within Within ParameterUses Within ClauseUses Within argument_uses clause_uses expression_uses parameter_uses target_uses clauses_uses entry_uses l)

pub of_target : (x : Target) (chain : List ℕ) → in_target x chain ≡ target_level (target x) chain
of_target x chain = ap (λ y. in_target y chain) (sym (roll-out-Target x)) ∙ target_step (out-Target x) chain

abbrev pub outer_level : ParameterForm → Within
outer_level (tree.Plain n) chain = []
outer_level (tree.Default n e) chain = in_expression e chain
outer_level (tree.Parameter-F.Parameter::Star n) chain = []
outer_level tree.BareStar chain = []
outer_level (tree.Parameter-F.Parameter::StarStar n) chain = []

-- (a clause with a form comes first, so that the last one is read at each form by itself)
outer_step : (l : ParameterForm) (chain : List ℕ) → (in_parameter (roll-Parameter l)).outer chain ≡ outer_level l chain
outer_step (tree.Plain n) chain = ap (λ (w : ParameterUses). w.outer chain) (fold-roll-Parameter Within Within Within ParameterUses Within ClauseUses Within argument_uses clause_uses expression_uses parameter_uses target_uses clauses_uses entry_uses (tree.Plain n))
outer_step l chain = ap (λ (w : ParameterUses). w.outer chain) (fold-roll-Parameter Within Within Within ParameterUses Within ClauseUses Within argument_uses clause_uses expression_uses parameter_uses target_uses clauses_uses entry_uses l)

pub of_outer : (x : Parameter) (chain : List ℕ) → (in_parameter x).outer chain ≡ outer_level (parameter x) chain
of_outer x chain = ap (λ y. (in_parameter y).outer chain) (sym (roll-out-Parameter x)) ∙ outer_step (out-Parameter x) chain

abbrev pub inner_level : ParameterForm → Within
inner_level (tree.Plain n) chain = one_use n chain
inner_level (tree.Default n e) chain = one_use n chain
inner_level (tree.Parameter-F.Parameter::Star n) chain = one_use n chain
inner_level tree.BareStar chain = []
inner_level (tree.Parameter-F.Parameter::StarStar n) chain = one_use n chain

-- (a clause with a form comes first, so that the last one is read at each form by itself)
inner_step : (l : ParameterForm) (chain : List ℕ) → (in_parameter (roll-Parameter l)).inner chain ≡ inner_level l chain
inner_step (tree.Plain n) chain = ap (λ (w : ParameterUses). w.inner chain) (fold-roll-Parameter Within Within Within ParameterUses Within ClauseUses Within argument_uses clause_uses expression_uses parameter_uses target_uses clauses_uses entry_uses (tree.Plain n))
inner_step l chain = ap (λ (w : ParameterUses). w.inner chain) (fold-roll-Parameter Within Within Within ParameterUses Within ClauseUses Within argument_uses clause_uses expression_uses parameter_uses target_uses clauses_uses entry_uses l)

pub of_inner : (x : Parameter) (chain : List ℕ) → (in_parameter x).inner chain ≡ inner_level (parameter x) chain
of_inner x chain = ap (λ y. (in_parameter y).inner chain) (sym (roll-out-Parameter x)) ∙ inner_step (out-Parameter x) chain

pub of_form : (x : Form) (token : ℕ) (chain : List ℕ) → in_form x token chain ≡ form_level (out-Form x) token chain
of_form x token chain = by_form x (out-Form x) token chain (sym (roll-out-Form x))

pub of_statement : (s : Statement) (chain : List ℕ) → in_statement s chain ≡ form_level (form_of s) (position_of s).token chain
of_statement s chain = statement_opened s chain ∙ of_form (out-Statement s).form (position_of s).token chain
