-- The names of a part of the tree, one level at a time.
use Rattle.std.proofs.Common.{◌≡◌, ◌⊎◌, inl, inr, ◌+◌, ℕ, ℤ, List, [], ◌∷◌, ◌++◌, Some, None, refl, ap, sym, ◌∙◌, map}
use Rattle.std.specs.Option.{option_map}
use Rattle.star_tree.specs.declared.tree.BinaryOperator.{BinaryOperator}
use Rattle.star_tree.specs.declared.tree.Clause.{Clause}
use Rattle.star_tree.specs.declared.tree.Clauses.{Clauses, out-Clauses}
use Rattle.star_tree.specs.declared.tree.Comparator.{Comparator}
use Rattle.star_tree.specs.declared.tree.Entry.{Entry, out-Entry}
use Rattle.star_tree.specs.declared.tree.Expression.{Expression, roll-Expression}
use Rattle.star_tree.specs.declared.tree.Parameter.{Parameter, out-Parameter, roll-Parameter, roll-out-Parameter}
use Rattle.star_tree.specs.declared.tree.Target.{Target}
use Rattle.star_tree.specs.declared.tree.Argument.TheOpen as tree
use Rattle.star_tree.specs.declared.tree.Argument.TheFolds.{fold-roll-Clause, fold-roll-Expression, fold-roll-Parameter, fold-roll-Target, fold_out-Clauses, fold_out-Entry}
use Rattle.star_tree.specs.declared.tree.Expression.TheVariants as e
use Rattle.star_tree.specs.declared.tree.Clause.TheVariants as c
use Rattle.star_tree.specs.declared.tree.Parameter.TheVariants as p
use Rattle.star_tree.specs.declared.tree.Target.TheVariants as t
use Rattle.star_tree.specs.declared.tree.Name.{Name}
use Rattle.star_tree.specs.declared.tree.Position.{Position}
use Rattle.star_outline.specs.Syntax.{ExpressionForm, ParameterForm}
use Rattle.star_scope.specs.Uses.{ClauseUses, Defined, ParameterUses, Within, all_uses, argument_uses, clause_uses, clauses_uses, default_uses, entry_uses, expression_uses, in_argument, in_clause, in_clauses, in_entry, in_expression, in_parameter, in_target, inner_of, maybe_use, one_use, outer_of, parameter_name_uses, parameter_uses, target_uses}

pub defaults_are : (ps : List Parameter) (chain : List ℕ) → outer_of (map in_parameter ps) chain ≡ all_uses default_uses ps chain
defaults_are [] chain = refl
defaults_are (q ∷ qs) chain = ap (λ us. default_uses q chain ++ us) (defaults_are qs chain)

pub names_are : (ps : List Parameter) (chain : List ℕ) → inner_of (map in_parameter ps) chain ≡ all_uses parameter_name_uses ps chain
names_are [] chain = refl
names_are (q ∷ qs) chain = ap (λ us. parameter_name_uses q chain ++ us) (names_are qs chain)

abbrev pub expression_level : ExpressionForm → Within
expression_level (tree.Expression-F.Expression::Name n) chain = one_use n chain
expression_level (tree.Int n) chain = []
expression_level (tree.Text x) chain = []
expression_level (tree.Expression-F.Expression::Tuple es) chain = all_uses in_expression es chain
expression_level (tree.Expression-F.Expression::List es) chain = all_uses in_expression es chain
expression_level (tree.Dict es) chain = all_uses in_entry es chain
expression_level (tree.ListComprehension at x cs) chain = (in_clauses cs).first chain ++ ((in_clauses cs).rest ((1 + at.token) ∷ chain) ++ in_expression x ((1 + at.token) ∷ chain))
expression_level (tree.DictComprehension at x cs) chain = (in_clauses cs).first chain ++ ((in_clauses cs).rest ((1 + at.token) ∷ chain) ++ in_entry x ((1 + at.token) ∷ chain))
expression_level (tree.Unary op x) chain = in_expression x chain
expression_level (tree.Binary op a b) chain = in_expression a chain ++ in_expression b chain
expression_level (tree.Compare k a b) chain = in_expression a chain ++ in_expression b chain
expression_level (tree.And a b) chain = in_expression a chain ++ in_expression b chain
expression_level (tree.Or a b) chain = in_expression a chain ++ in_expression b chain
expression_level (tree.Conditional x a b) chain = in_expression x chain ++ (in_expression a chain ++ in_expression b chain)
expression_level (tree.Lambda at ps x) chain = Defined at.token chain ∷ (outer_of (map in_parameter ps) chain ++ (inner_of (map in_parameter ps) ((1 + at.token) ∷ chain) ++ in_expression x ((1 + at.token) ∷ chain)))
expression_level (tree.Call f es) chain = in_expression f chain ++ all_uses in_argument es chain
expression_level (tree.Attribute x n) chain = in_expression x chain
expression_level (tree.Expression-F.Expression::Index x i) chain = in_expression x chain ++ in_expression i chain
expression_level (tree.Slice x a b d) chain = in_expression x chain ++ (maybe_use (option_map in_expression a) chain ++ (maybe_use (option_map in_expression b) chain ++ maybe_use (option_map in_expression d) chain))

-- (a clause with a form comes first, so that the last one is read at each form by itself)
step : (l : ExpressionForm) (chain : List ℕ) → in_expression (roll-Expression l) chain ≡ expression_level l chain
step (tree.Slice x None None None) chain = ap (λ (w : Within). w chain) (fold-roll-Expression Within Within Within ParameterUses Within ClauseUses Within argument_uses clause_uses expression_uses parameter_uses target_uses clauses_uses entry_uses (tree.Slice x None None None))
step (tree.Slice x None None (Some d)) chain = ap (λ (w : Within). w chain) (fold-roll-Expression Within Within Within ParameterUses Within ClauseUses Within argument_uses clause_uses expression_uses parameter_uses target_uses clauses_uses entry_uses (tree.Slice x None None (Some d)))
step (tree.Slice x None (Some b) None) chain = ap (λ (w : Within). w chain) (fold-roll-Expression Within Within Within ParameterUses Within ClauseUses Within argument_uses clause_uses expression_uses parameter_uses target_uses clauses_uses entry_uses (tree.Slice x None (Some b) None))
step (tree.Slice x None (Some b) (Some d)) chain = ap (λ (w : Within). w chain) (fold-roll-Expression Within Within Within ParameterUses Within ClauseUses Within argument_uses clause_uses expression_uses parameter_uses target_uses clauses_uses entry_uses (tree.Slice x None (Some b) (Some d)))
step (tree.Slice x (Some a) None None) chain = ap (λ (w : Within). w chain) (fold-roll-Expression Within Within Within ParameterUses Within ClauseUses Within argument_uses clause_uses expression_uses parameter_uses target_uses clauses_uses entry_uses (tree.Slice x (Some a) None None))
step (tree.Slice x (Some a) None (Some d)) chain = ap (λ (w : Within). w chain) (fold-roll-Expression Within Within Within ParameterUses Within ClauseUses Within argument_uses clause_uses expression_uses parameter_uses target_uses clauses_uses entry_uses (tree.Slice x (Some a) None (Some d)))
step (tree.Slice x (Some a) (Some b) None) chain = ap (λ (w : Within). w chain) (fold-roll-Expression Within Within Within ParameterUses Within ClauseUses Within argument_uses clause_uses expression_uses parameter_uses target_uses clauses_uses entry_uses (tree.Slice x (Some a) (Some b) None))
step (tree.Slice x (Some a) (Some b) (Some d)) chain = ap (λ (w : Within). w chain) (fold-roll-Expression Within Within Within ParameterUses Within ClauseUses Within argument_uses clause_uses expression_uses parameter_uses target_uses clauses_uses entry_uses (tree.Slice x (Some a) (Some b) (Some d)))
step l chain = ap (λ (w : Within). w chain) (fold-roll-Expression Within Within Within ParameterUses Within ClauseUses Within argument_uses clause_uses expression_uses parameter_uses target_uses clauses_uses entry_uses l)

pub of : (x : Expression) (l : ExpressionForm) (chain : List ℕ) → x ≡ roll-Expression l → in_expression x chain ≡ expression_level l chain
of x l chain is = ap (λ y. in_expression y chain) is ∙ step l chain

pub of_plain : (x : Expression) → ((n : ℤ) × (x ≡ e.Int n)) ⊎ ((s : List ℕ) × (x ≡ e.Text s)) → (chain : List ℕ) → in_expression x chain ≡ []
of_plain x (inl (n, is)) chain = of x (tree.Int n) chain (is ∙ sym (e.rolls-Int n))
of_plain x (inr (s, is)) chain = of x (tree.Text s) chain (is ∙ sym (e.rolls-Text s))

abbrev pub IsPair : Expression → Expression → Expression → Type 0
IsPair x a b = ((op : BinaryOperator) × (x ≡ e.Binary op a b)) ⊎ (((k : Comparator) × (x ≡ e.Compare k a b)) ⊎ ((x ≡ e.And a b) ⊎ ((x ≡ e.Or a b) ⊎ (x ≡ e.Index a b))))

pub of_pair : (x a b : Expression) → IsPair x a b → (chain : List ℕ) → in_expression x chain ≡ in_expression a chain ++ in_expression b chain
of_pair x a b (inl (op, is)) chain = of x (tree.Binary op a b) chain (is ∙ sym (e.rolls-Binary op a b))
of_pair x a b (inr (inl (k, is))) chain = of x (tree.Compare k a b) chain (is ∙ sym (e.rolls-Compare k a b))
of_pair x a b (inr (inr (inl is))) chain = of x (tree.And a b) chain (is ∙ sym (e.rolls-And a b))
of_pair x a b (inr (inr (inr (inl is)))) chain = of x (tree.Or a b) chain (is ∙ sym (e.rolls-Or a b))
of_pair x a b (inr (inr (inr (inr is)))) chain = of x (tree.Expression-F.Expression::Index a b) chain (is ∙ sym (e.rolls-Index a b))

pub of_lambda : (x : Expression) (at : Position) (ps : List Parameter) (a : Expression) → x ≡ e.Lambda at ps a → (chain : List ℕ)
    → in_expression x chain ≡ Defined at.token chain ∷ (all_uses default_uses ps chain ++ (all_uses parameter_name_uses ps ((1 + at.token) ∷ chain) ++ in_expression a ((1 + at.token) ∷ chain)))
of_lambda x at ps a is chain =
    of x (tree.Lambda at ps a) chain (is ∙ sym (e.rolls-Lambda at ps a))
    ∙ ap (λ us. Defined at.token chain ∷ (us ++ (inner_of (map in_parameter ps) ((1 + at.token) ∷ chain) ++ in_expression a ((1 + at.token) ∷ chain)))) (defaults_are ps chain)
    ∙ ap (λ us. Defined at.token chain ∷ (all_uses default_uses ps chain ++ (us ++ in_expression a ((1 + at.token) ∷ chain)))) (names_are ps ((1 + at.token) ∷ chain))

-- the other parts of an expression

pub of_entry : (x : Entry) (chain : List ℕ) → in_entry x chain ≡ in_expression (out-Entry x).key chain ++ in_expression (out-Entry x).value chain
of_entry x chain = ap (λ (w : Within). w chain) (fold_out-Entry Within Within Within ParameterUses Within ClauseUses Within argument_uses clause_uses expression_uses parameter_uses target_uses clauses_uses entry_uses x)

pub of_first : (x : Clauses) (chain : List ℕ) → (in_clauses x).first chain ≡ in_expression (out-Clauses x).iterable chain
of_first x chain = ap (λ (w : ClauseUses). w.first chain) (fold_out-Clauses Within Within Within ParameterUses Within ClauseUses Within argument_uses clause_uses expression_uses parameter_uses target_uses clauses_uses entry_uses x)

pub of_rest : (x : Clauses) (chain : List ℕ) → (in_clauses x).rest chain ≡ in_target (out-Clauses x).target chain ++ all_uses in_clause (out-Clauses x).more chain
of_rest x chain = ap (λ (w : ClauseUses). w.rest chain) (fold_out-Clauses Within Within Within ParameterUses Within ClauseUses Within argument_uses clause_uses expression_uses parameter_uses target_uses clauses_uses entry_uses x)

pub of_for : (x : Clause) (y : Target) (a : Expression) → x ≡ c.For y a → (chain : List ℕ) → in_clause x chain ≡ in_target y chain ++ in_expression a chain
of_for x y a is chain = ap (λ z. in_clause z chain) (is ∙ sym (c.rolls-For y a)) ∙ ap (λ (w : Within). w chain) (fold-roll-Clause Within Within Within ParameterUses Within ClauseUses Within argument_uses clause_uses expression_uses parameter_uses target_uses clauses_uses entry_uses (tree.For y a))

pub of_index : (x : Target) (a b : Expression) → x ≡ t.Index a b → (chain : List ℕ) → in_target x chain ≡ in_expression a chain ++ in_expression b chain
of_index x a b is chain = ap (λ z. in_target z chain) (is ∙ sym (t.rolls-Index a b)) ∙ ap (λ (w : Within). w chain) (fold-roll-Target Within Within Within ParameterUses Within ClauseUses Within argument_uses clause_uses expression_uses parameter_uses target_uses clauses_uses entry_uses (tree.Target-F.Target::Index a b))

pub of_bare : (x : Parameter) → x ≡ p.BareStar → (chain : List ℕ) → parameter_name_uses x chain ≡ []
of_bare x is chain = ap (λ z. parameter_name_uses z chain) (is ∙ sym p.rolls-BareStar) ∙ ap (λ (w : ParameterUses). w.inner chain) (fold-roll-Parameter Within Within Within ParameterUses Within ClauseUses Within argument_uses clause_uses expression_uses parameter_uses target_uses clauses_uses entry_uses tree.BareStar)

without_default : (l : ParameterForm) (chain : List ℕ) → ((n : Name) (a : Expression) → l ≡ tree.Default n a → ⊥) → default_uses (roll-Parameter l) chain ≡ []
without_default (tree.Default n a) chain other = elim (other n a refl) [ ]
without_default (tree.Plain n) chain other = ap (λ (w : ParameterUses). w.outer chain) (fold-roll-Parameter Within Within Within ParameterUses Within ClauseUses Within argument_uses clause_uses expression_uses parameter_uses target_uses clauses_uses entry_uses (tree.Plain n))
without_default (tree.Parameter-F.Parameter::Star n) chain other = ap (λ (w : ParameterUses). w.outer chain) (fold-roll-Parameter Within Within Within ParameterUses Within ClauseUses Within argument_uses clause_uses expression_uses parameter_uses target_uses clauses_uses entry_uses (tree.Parameter-F.Parameter::Star n))
without_default tree.BareStar chain other = ap (λ (w : ParameterUses). w.outer chain) (fold-roll-Parameter Within Within Within ParameterUses Within ClauseUses Within argument_uses clause_uses expression_uses parameter_uses target_uses clauses_uses entry_uses tree.BareStar)
without_default (tree.Parameter-F.Parameter::StarStar n) chain other = ap (λ (w : ParameterUses). w.outer chain) (fold-roll-Parameter Within Within Within ParameterUses Within ClauseUses Within argument_uses clause_uses expression_uses parameter_uses target_uses clauses_uses entry_uses (tree.Parameter-F.Parameter::StarStar n))

pub of_no_default : (x : Parameter) → ((n : Name) (a : Expression) → x ≡ p.Default n a → ⊥) → (chain : List ℕ) → default_uses x chain ≡ []
of_no_default x other chain =
    ap (λ z. default_uses z chain) (sym (roll-out-Parameter x))
    ∙ without_default (out-Parameter x) chain (λ n a is. other n a (sym (roll-out-Parameter x) ∙ ap roll-Parameter is ∙ p.rolls-Default n a))
