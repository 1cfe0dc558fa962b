-- The outlines of the parts of a file, one level of the tree at a time.
use Rattle.std.proofs.Common.{◌≡◌, ◌<◌, ◌≤◌, ◌+◌, ℕ, List, [], ◌∷◌, ◌++◌, Some, None, refl, ap, sym, ◌∙◌, length, map, drop, append-nil, ◌⊎◌, inl, inr}
use Rattle.std.proofs.Math.ListN.{get_or}
use Rattle.std.proofs.lemmas.List.{append_assoc}
use Rattle.star_tree.specs.declared.tree.Argument.{Argument, roll-Argument, para-roll-Argument}
use Rattle.star_tree.specs.declared.tree.Clause.{Clause, roll-Clause, para-roll-Clause}
use Rattle.star_tree.specs.declared.tree.Clauses.{Clauses, out-Clauses, roll-out-Clauses, para-roll-Clauses}
use Rattle.star_tree.specs.declared.tree.Entry.{Entry, out-Entry, roll-out-Entry, para-roll-Entry}
use Rattle.star_tree.specs.declared.tree.Expression.{Expression, out-Expression, roll-Expression, roll-out-Expression, para-roll-Expression}
use Rattle.star_tree.specs.declared.tree.Parameter.{Parameter, out-Parameter, roll-Parameter, roll-out-Parameter, para-roll-Parameter}
use Rattle.star_tree.specs.declared.tree.Target.{Target, out-Target, roll-Target, roll-out-Target, para-roll-Target}
use Rattle.star_tree.specs.declared.tree.Argument.TheOpen as tree
use Rattle.star_tree.specs.declared.tree.Argument.TheVariants as a
use Rattle.star_tree.specs.declared.tree.Clause.TheVariants as c
use Rattle.star_tree.specs.declared.tree.Expression.TheVariants as v
use Rattle.star_tree.specs.declared.tree.Parameter.TheVariants as p
use Rattle.star_tree.specs.declared.tree.Target.TheVariants as t
use Rattle.star_tree.specs.declared.tree.Name.{Name}
use Rattle.star_tree.specs.declared.tree.BinaryOperator.{BinaryOperator}
use Rattle.star_tree.specs.declared.tree.Comparator.{Comparator}
use Rattle.star_tree.specs.declared.tree.UnaryOperator.{UnaryOperator}
use Rattle.star_outline.specs.Syntax.{ArgumentForm, ClauseForm, ExpressionForm, ParameterForm, TargetForm}
use Rattle.star_outline.specs.Outlines.{Answer, Found, and, argument_found, clause_found, clauses_found, comprehension, definition, entry_found, expression_found, firsts, in_argument, in_clause, in_clauses, in_each, in_entry, in_expression, in_expressions, in_optional, in_parameter, in_parameters, in_target, nothing, parameter_found, target_found}
use Rattle.star_outline.proofs.Turns.{added, added_all}

pub and_joined : (a b c : Found) → and a (and b c) ≡ and (and a b) c
unfolding and
and_joined a b c = ap (λ ds. record { definitions = ds; blocks = a.blocks ++ (b.blocks ++ c.blocks) }) (sym (append_assoc a.definitions b.definitions c.definitions))
    ∙ ap (λ bs. record { definitions = (a.definitions ++ b.definitions) ++ c.definitions; blocks = bs }) (sym (append_assoc a.blocks b.blocks c.blocks))

pub and_nothing : (a : Found) → and a nothing ≡ a
unfolding and nothing
and_nothing a = ap (λ ds. record { definitions = ds; blocks = a.blocks ++ [] }) (append-nil a.definitions) ∙ ap (λ bs. record { definitions = a.definitions; blocks = bs }) (append-nil a.blocks)

-- one part, two, three or four, one after the other
pub found_one : (a all old new : Found) → all ≡ a → new ≡ and old a → new ≡ and old all
found_one a all old new whole first = first ∙ ap (and old) (sym whole)

pub found_both : (a b all old mid new : Found) → all ≡ and a b → mid ≡ and old a → new ≡ and mid b → new ≡ and old all
found_both a b all old mid new whole first then = then ∙ ap (λ m. and m b) first ∙ sym (and_joined old a b) ∙ ap (and old) (sym whole)

pub found_three : (a b c all old one two new : Found) → all ≡ and a (and b c) → one ≡ and old a → two ≡ and one b → new ≡ and two c → new ≡ and old all
found_three a b c all old one two new whole first second third = found_both a (and b c) all old one new whole first (found_both b c (and b c) one two new refl second third)

pub found_four : (a b c d all old one two three new : Found) → all ≡ and a (and b (and c d)) → one ≡ and old a → two ≡ and one b → three ≡ and two c → new ≡ and three d → new ≡ and old all
found_four a b c d all old one two three new whole first second third fourth =
    found_both a (and b (and c d)) all old one new whole first (found_three b c d (and b (and c d)) one two three new refl second third fourth)

-- a turn of a loop that adds the outlines of a list's items, and its end
pub found_turn : {A : Type 0} (one : A → Found) (each : List A → Found) (next : (x : A) (xs : List A) → each (x ∷ xs) ≡ and (one x) (each xs))
    (xs : List A) (i : ℕ) (x : A) (old more total : Found) → i < length xs → x ≡ get_or xs i x → more ≡ and old (one x)
    → and old (each (drop i xs)) ≡ total → and more (each (drop (i + 1) xs)) ≡ total
found_turn one each next = added and and and_joined one each next

pub found_done : {A : Type 0} (each : List A → Found) (xs : List A) (i : ℕ) (old total : Found) → each [] ≡ nothing → length xs ≤ i → and old (each (drop i xs)) ≡ total → old ≡ total
found_done each xs i old total none le inv = added_all and each xs i old total (ap (and old) none ∙ and_nothing old) le inv

firsts_of : {A : Type 0} (one : A → Found) (xs : List A) → firsts (map (λ x. (x, one x)) xs) ≡ xs
firsts_of one [] = refl
firsts_of one (x ∷ xs) = ap (λ ys. x ∷ ys) (firsts_of one xs)

abbrev pub argument_level : ArgumentForm → Found
argument_level (tree.Positional e) = in_expression e
argument_level (tree.Named n e) = in_expression e
argument_level (tree.Argument-F.Argument::Star e) = in_expression e
argument_level (tree.Argument-F.Argument::StarStar e) = in_expression e

-- (a clause with a form comes first, so that the last one is read at each form by itself)
argument_rolled : (l : ArgumentForm) → in_argument (roll-Argument l) ≡ argument_level l
argument_rolled (tree.Positional e) = para-roll-Argument Found Found Found Found Found Found Found argument_found clause_found expression_found parameter_found target_found clauses_found entry_found (tree.Positional e)
argument_rolled l = para-roll-Argument Found Found Found Found Found Found Found argument_found clause_found expression_found parameter_found target_found clauses_found entry_found l

abbrev pub clause_level : ClauseForm → Found
clause_level (tree.For t e) = and (in_target t) (in_expression e)
clause_level (tree.If e) = in_expression e

clause_rolled : (l : ClauseForm) → in_clause (roll-Clause l) ≡ clause_level l
clause_rolled (tree.For t e) = para-roll-Clause Found Found Found Found Found Found Found argument_found clause_found expression_found parameter_found target_found clauses_found entry_found (tree.For t e)
clause_rolled (tree.If e) = para-roll-Clause Found Found Found Found Found Found Found argument_found clause_found expression_found parameter_found target_found clauses_found entry_found (tree.If e)

abbrev pub parameter_level : ParameterForm → Found
parameter_level (tree.Plain n) = nothing
parameter_level (tree.Default n e) = in_expression e
parameter_level (tree.Parameter-F.Parameter::Star n) = nothing
parameter_level tree.BareStar = nothing
parameter_level (tree.Parameter-F.Parameter::StarStar n) = nothing

-- (a clause with a form comes first, so that the last one is read at each form by itself)
parameter_rolled : (l : ParameterForm) → in_parameter (roll-Parameter l) ≡ parameter_level l
parameter_rolled (tree.Plain n) = para-roll-Parameter Found Found Found Found Found Found Found argument_found clause_found expression_found parameter_found target_found clauses_found entry_found (tree.Plain n)
parameter_rolled l = para-roll-Parameter Found Found Found Found Found Found Found argument_found clause_found expression_found parameter_found target_found clauses_found entry_found l

pub parameter_opened : (x : Parameter) → in_parameter x ≡ parameter_level (out-Parameter x)
parameter_opened x = ap in_parameter (sym (roll-out-Parameter x)) ∙ parameter_rolled (out-Parameter x)

abbrev pub target_level : TargetForm → Found
target_level (tree.Target-F.Target::Name n) = nothing
target_level (tree.Target-F.Target::Index e i) = and (in_expression e) (in_expression i)
target_level (tree.Target-F.Target::Tuple ts) = in_each in_target ts
target_level (tree.Target-F.Target::List ts) = in_each in_target ts

-- (a clause with a form comes first, so that the last one is read at each form by itself)
target_rolled : (l : TargetForm) → in_target (roll-Target l) ≡ target_level l
target_rolled (tree.Target-F.Target::Name n) = para-roll-Target Found Found Found Found Found Found Found argument_found clause_found expression_found parameter_found target_found clauses_found entry_found (tree.Target-F.Target::Name n)
target_rolled l = para-roll-Target Found Found Found Found Found Found Found argument_found clause_found expression_found parameter_found target_found clauses_found entry_found l

pub target_opened : (x : Target) → in_target x ≡ target_level (out-Target x)
target_opened x = ap in_target (sym (roll-out-Target x)) ∙ target_rolled (out-Target x)

abbrev pub expression_level : ExpressionForm → Found
expression_level (tree.Expression-F.Expression::Name n) = nothing
expression_level (tree.Int n) = nothing
expression_level (tree.Text t) = nothing
expression_level (tree.Expression-F.Expression::Tuple es) = in_expressions es
expression_level (tree.Expression-F.Expression::List es) = in_expressions es
expression_level (tree.Dict es) = in_each in_entry es
expression_level (tree.ListComprehension at e cs) = and (comprehension at.token cs) (and (in_expression e) (in_clauses cs))
expression_level (tree.DictComprehension at e cs) = and (comprehension at.token cs) (and (in_entry e) (in_clauses cs))
expression_level (tree.Unary op e) = in_expression e
expression_level (tree.Binary op a b) = and (in_expression a) (in_expression b)
expression_level (tree.Compare c a b) = and (in_expression a) (in_expression b)
expression_level (tree.And a b) = and (in_expression a) (in_expression b)
expression_level (tree.Or a b) = and (in_expression a) (in_expression b)
expression_level (tree.Conditional c a b) = and (in_expression c) (and (in_expression a) (in_expression b))
expression_level (tree.Lambda at ps e) = and (definition at.token ps (Answer e)) (and (in_parameters ps) (in_expression e))
expression_level (tree.Call f es) = and (in_expression f) (in_each in_argument es)
expression_level (tree.Attribute e n) = in_expression e
expression_level (tree.Expression-F.Expression::Index e i) = and (in_expression e) (in_expression i)
expression_level (tree.Slice e a b c) = and (in_expression e) (and (in_optional a) (and (in_optional b) (in_optional c)))

-- (a clause with a form comes first, so that the last one is read at each form by itself)
expression_rolled : (l : ExpressionForm) → in_expression (roll-Expression l) ≡ expression_level l
expression_rolled (tree.Lambda at ps e) = para-roll-Expression Found Found Found Found Found Found Found argument_found clause_found expression_found parameter_found target_found clauses_found entry_found (tree.Lambda at ps e)
    ∙ ap (λ qs. and (definition at.token qs (Answer e)) (and (in_parameters ps) (in_expression e))) (firsts_of in_parameter ps)
expression_rolled (tree.Slice e None None None) = para-roll-Expression Found Found Found Found Found Found Found argument_found clause_found expression_found parameter_found target_found clauses_found entry_found (tree.Slice e None None None)
expression_rolled (tree.Slice e None None (Some c)) = para-roll-Expression Found Found Found Found Found Found Found argument_found clause_found expression_found parameter_found target_found clauses_found entry_found (tree.Slice e None None (Some c))
expression_rolled (tree.Slice e None (Some b) None) = para-roll-Expression Found Found Found Found Found Found Found argument_found clause_found expression_found parameter_found target_found clauses_found entry_found (tree.Slice e None (Some b) None)
expression_rolled (tree.Slice e None (Some b) (Some c)) = para-roll-Expression Found Found Found Found Found Found Found argument_found clause_found expression_found parameter_found target_found clauses_found entry_found (tree.Slice e None (Some b) (Some c))
expression_rolled (tree.Slice e (Some a) None None) = para-roll-Expression Found Found Found Found Found Found Found argument_found clause_found expression_found parameter_found target_found clauses_found entry_found (tree.Slice e (Some a) None None)
expression_rolled (tree.Slice e (Some a) None (Some c)) = para-roll-Expression Found Found Found Found Found Found Found argument_found clause_found expression_found parameter_found target_found clauses_found entry_found (tree.Slice e (Some a) None (Some c))
expression_rolled (tree.Slice e (Some a) (Some b) None) = para-roll-Expression Found Found Found Found Found Found Found argument_found clause_found expression_found parameter_found target_found clauses_found entry_found (tree.Slice e (Some a) (Some b) None)
expression_rolled (tree.Slice e (Some a) (Some b) (Some c)) = para-roll-Expression Found Found Found Found Found Found Found argument_found clause_found expression_found parameter_found target_found clauses_found entry_found (tree.Slice e (Some a) (Some b) (Some c))
expression_rolled l = para-roll-Expression Found Found Found Found Found Found Found argument_found clause_found expression_found parameter_found target_found clauses_found entry_found l

pub expression_opened : (x : Expression) → in_expression x ≡ expression_level (out-Expression x)
expression_opened x = ap in_expression (sym (roll-out-Expression x)) ∙ expression_rolled (out-Expression x)

pub clauses_opened : (x : Clauses) → in_clauses x ≡ and (in_target (out-Clauses x).target) (and (in_expression (out-Clauses x).iterable) (in_each in_clause (out-Clauses x).more))
clauses_opened x = ap in_clauses (sym (roll-out-Clauses x)) ∙ para-roll-Clauses Found Found Found Found Found Found Found argument_found clause_found expression_found parameter_found target_found clauses_found entry_found (out-Clauses x)

pub entry_opened : (x : Entry) → in_entry x ≡ and (in_expression (out-Entry x).key) (in_expression (out-Entry x).value)
entry_opened x = ap in_entry (sym (roll-out-Entry x)) ∙ para-roll-Entry Found Found Found Found Found Found Found argument_found clause_found expression_found parameter_found target_found clauses_found entry_found (out-Entry x)

-- ---- by the form

pub expression_at : (x : Expression) (l : ExpressionForm) → x ≡ roll-Expression l → in_expression x ≡ expression_level l
expression_at x l is = ap in_expression is ∙ expression_rolled l

pub of_display : (x : Expression) (parts : List Expression) → (x ≡ v.Tuple parts) ⊎ (x ≡ v.List parts) → in_expression x ≡ in_expressions parts
of_display x parts (inl is) = expression_at x (tree.Expression-F.Expression::Tuple parts) (is ∙ sym (v.rolls-Tuple parts))
of_display x parts (inr is) = expression_at x (tree.Expression-F.Expression::List parts) (is ∙ sym (v.rolls-List parts))

pub of_one : (x value : Expression) → ((op : UnaryOperator) × (x ≡ v.Unary op value)) ⊎ ((n : Name) × (x ≡ v.Attribute value n)) → in_expression x ≡ in_expression value
of_one x value (inl (op, is)) = expression_at x (tree.Unary op value) (is ∙ sym (v.rolls-Unary op value))
of_one x value (inr (n, is)) = expression_at x (tree.Attribute value n) (is ∙ sym (v.rolls-Attribute value n))

pub of_two : (x left right : Expression)
    → ((op : BinaryOperator) × (x ≡ v.Binary op left right)) ⊎ (((op : Comparator) × (x ≡ v.Compare op left right)) ⊎ ((x ≡ v.And left right) ⊎ ((x ≡ v.Or left right) ⊎ (x ≡ v.Index left right))))
    → in_expression x ≡ and (in_expression left) (in_expression right)
of_two x left right (inl (op, is)) = expression_at x (tree.Binary op left right) (is ∙ sym (v.rolls-Binary op left right))
of_two x left right (inr (inl (op, is))) = expression_at x (tree.Compare op left right) (is ∙ sym (v.rolls-Compare op left right))
of_two x left right (inr (inr (inl is))) = expression_at x (tree.And left right) (is ∙ sym (v.rolls-And left right))
of_two x left right (inr (inr (inr (inl is)))) = expression_at x (tree.Or left right) (is ∙ sym (v.rolls-Or left right))
of_two x left right (inr (inr (inr (inr is)))) = expression_at x (tree.Expression-F.Expression::Index left right) (is ∙ sym (v.rolls-Index left right))

pub of_argument : (x : Argument) (value : Expression) → (x ≡ a.Positional value) ⊎ (((n : Name) × (x ≡ a.Named n value)) ⊎ ((x ≡ a.Star value) ⊎ (x ≡ a.StarStar value))) → in_argument x ≡ in_expression value
of_argument x value (inl is) = ap in_argument (is ∙ sym (a.rolls-Positional value)) ∙ argument_rolled (tree.Positional value)
of_argument x value (inr (inl (n, is))) = ap in_argument (is ∙ sym (a.rolls-Named n value)) ∙ argument_rolled (tree.Named n value)
of_argument x value (inr (inr (inl is))) = ap in_argument (is ∙ sym (a.rolls-Star value)) ∙ argument_rolled (tree.Argument-F.Argument::Star value)
of_argument x value (inr (inr (inr is))) = ap in_argument (is ∙ sym (a.rolls-StarStar value)) ∙ argument_rolled (tree.Argument-F.Argument::StarStar value)

pub of_Default : (n : Name) (default : Expression) → in_parameter (p.Default n default) ≡ in_expression default
of_Default n default = ap in_parameter (sym (p.rolls-Default n default)) ∙ parameter_rolled (tree.Default n default)

without_default : (l : ParameterForm) → ((n : Name) (e : Expression) → l ≡ tree.Default n e → ⊥) → parameter_level l ≡ nothing
without_default (tree.Plain n) other = refl
without_default (tree.Default n e) other = elim (other n e refl) [ ]
without_default (tree.Parameter-F.Parameter::Star n) other = refl
without_default tree.BareStar other = refl
without_default (tree.Parameter-F.Parameter::StarStar n) other = refl

pub of_others : (x : Parameter) → ((n : Name) (e : Expression) → x ≡ p.Default n e → ⊥) → in_parameter x ≡ nothing
of_others x other = parameter_opened x ∙ without_default (out-Parameter x) (λ n e is. other n e (sym (roll-out-Parameter x) ∙ ap roll-Parameter is ∙ p.rolls-Default n e))

pub of_Index : (value index : Expression) → in_target (t.Index value index) ≡ and (in_expression value) (in_expression index)
of_Index value index = ap in_target (sym (t.rolls-Index value index)) ∙ target_rolled (tree.Target-F.Target::Index value index)

pub of_targets : (x : Target) (ts : List Target) → (x ≡ t.Tuple ts) ⊎ (x ≡ t.List ts) → in_target x ≡ in_each in_target ts
of_targets x ts (inl is) = ap in_target (is ∙ sym (t.rolls-Tuple ts)) ∙ target_rolled (tree.Target-F.Target::Tuple ts)
of_targets x ts (inr is) = ap in_target (is ∙ sym (t.rolls-List ts)) ∙ target_rolled (tree.Target-F.Target::List ts)

pub of_For : (target : Target) (iterable : Expression) → in_clause (c.For target iterable) ≡ and (in_target target) (in_expression iterable)
of_For target iterable = ap in_clause (sym (c.rolls-For target iterable)) ∙ clause_rolled (tree.For target iterable)

pub of_If : (condition : Expression) → in_clause (c.If condition) ≡ in_expression condition
of_If condition = ap in_clause (sym (c.rolls-If condition)) ∙ clause_rolled (tree.If condition)
