-- Expressions and statements whose arguments and parameters are in order, at any depth; all that is read is so, and all
-- that is so can be written.
use Rattle.std.specs.Prelude.{◌≡◌, Bool, true, ◌&&◌, List, [], ◌∷◌, map, Option, Some, None}
use Rattle.star_syntax.specs.declared.leaf.ValuedToken.{ValuedToken}
use Rattle.star_tree.specs.declared.tree.Argument.{Argument}
use Rattle.star_tree.specs.declared.tree.Clause.{Clause}
use Rattle.star_tree.specs.declared.tree.Clauses.{Clauses}
use Rattle.star_tree.specs.declared.tree.Entry.{Entry}
use Rattle.star_tree.specs.declared.tree.Expression.{Expression}
use Rattle.star_tree.specs.declared.tree.Parameter.{Parameter}
use Rattle.star_tree.specs.declared.tree.Target.{Target}
use Rattle.star_tree.specs.declared.tree.Argument.TheOpen as tree
use Rattle.star_tree.specs.declared.tree.Argument.TheFolds as folds
use Rattle.star_tree.specs.declared.tree.Statement.{Statement}
use Rattle.star_tree.specs.declared.tree.Form.TheOpen as form
use Rattle.star_tree.specs.declared.tree.Form.TheFolds as form_folds
use Rattle.star_syntax.specs.declared.level.Level.{Level}
use Rattle.star_syntax.specs.declared.level.Level.TheVariants as levels
use Rattle.star_syntax.specs.Sorts as sorts
use Rattle.star_syntax.specs.Grammar.{level, nonterminal, Reads}
use Rattle.star_syntax.specs.Keeps.{arguments_in_order, parameters_in_order}
use Rattle.star_syntax.specs.Language.{rule, Reading}
use Rattle.star_syntax.specs.Written.{Written, Stops}

-- the parts of a layer, each beside whether it is in order
abbrev pub each_in_order : {A : Type 0} → List (A × Bool) → Bool
each_in_order [] = true
each_in_order (x ∷ xs) = x.1 && each_in_order xs

abbrev pub maybe_of : {A : Type 0} → Option (A × Bool) → Bool
maybe_of None = true
maybe_of (Some x) = x.1

abbrev pub firsts : {A : Type 0} → List (A × Bool) → List A
firsts xs = map (λ x. x.0) xs

abbrev pub argument_step : tree.Argument-F (Argument × Bool) (Clause × Bool) (Expression × Bool) (Parameter × Bool)
    (Target × Bool) (Clauses × Bool) (Entry × Bool) → Bool
argument_step (tree.Positional e) = e.1
argument_step (tree.Named n e) = e.1
argument_step (tree.Argument-F.Argument::Star e) = e.1
argument_step (tree.Argument-F.Argument::StarStar e) = e.1

abbrev pub clause_step : tree.Clause-F (Argument × Bool) (Clause × Bool) (Expression × Bool) (Parameter × Bool)
    (Target × Bool) (Clauses × Bool) (Entry × Bool) → Bool
clause_step (tree.For t e) = t.1 && e.1
clause_step (tree.If e) = e.1

abbrev pub expression_step : tree.Expression-F (Argument × Bool) (Clause × Bool) (Expression × Bool) (Parameter × Bool)
    (Target × Bool) (Clauses × Bool) (Entry × Bool) → Bool
expression_step (tree.Expression-F.Expression::Name n) = true
expression_step (tree.Int n) = true
expression_step (tree.Text t) = true
expression_step (tree.Expression-F.Expression::Tuple es) = each_in_order es
expression_step (tree.Expression-F.Expression::List es) = each_in_order es
expression_step (tree.Dict es) = each_in_order es
expression_step (tree.ListComprehension at e cs) = e.1 && cs.1
expression_step (tree.DictComprehension at e cs) = e.1 && cs.1
expression_step (tree.Unary op e) = e.1
expression_step (tree.Binary op a b) = a.1 && b.1
expression_step (tree.Compare c a b) = a.1 && b.1
expression_step (tree.And a b) = a.1 && b.1
expression_step (tree.Or a b) = a.1 && b.1
expression_step (tree.Conditional c a b) = c.1 && (a.1 && b.1)
expression_step (tree.Lambda at ps e) = parameters_in_order (firsts ps) && (each_in_order ps && e.1)
expression_step (tree.Call f es) = arguments_in_order (firsts es) && (f.1 && each_in_order es)
expression_step (tree.Attribute e n) = e.1
expression_step (tree.Expression-F.Expression::Index e i) = e.1 && i.1
expression_step (tree.Slice e a b c) = e.1 && (maybe_of a && (maybe_of b && maybe_of c))

abbrev pub parameter_step : tree.Parameter-F (Argument × Bool) (Clause × Bool) (Expression × Bool) (Parameter × Bool)
    (Target × Bool) (Clauses × Bool) (Entry × Bool) → Bool
parameter_step (tree.Default n e) = e.1
parameter_step _ = true

abbrev pub target_step : tree.Target-F (Argument × Bool) (Clause × Bool) (Expression × Bool) (Parameter × Bool)
    (Target × Bool) (Clauses × Bool) (Entry × Bool) → Bool
target_step (tree.Target-F.Target::Name n) = true
target_step (tree.Target-F.Target::Index e i) = e.1 && i.1
target_step (tree.Target-F.Target::Tuple ts) = each_in_order ts
target_step (tree.Target-F.Target::List ts) = each_in_order ts

abbrev pub clauses_step : tree.Clauses-F (Argument × Bool) (Clause × Bool) (Expression × Bool) (Parameter × Bool)
    (Target × Bool) (Clauses × Bool) (Entry × Bool) → Bool
clauses_step cs = cs.target.1 && (cs.iterable.1 && each_in_order cs.more)

abbrev pub entry_step : tree.Entry-F (Argument × Bool) (Clause × Bool) (Expression × Bool) (Parameter × Bool)
    (Target × Bool) (Clauses × Bool) (Entry × Bool) → Bool
entry_step e = e.key.1 && e.value.1

-- each list of arguments and of parameters in an expression is in order
unfoldable pub in_order : Expression → Bool
in_order =
    folds.para-Expression Bool Bool Bool Bool Bool Bool Bool argument_step clause_step expression_step parameter_step
    target_step clauses_step entry_step

-- the same for a parameter and for a target
unfoldable pub parameter_in_order : Parameter → Bool
parameter_in_order =
    folds.para-Parameter Bool Bool Bool Bool Bool Bool Bool argument_step clause_step expression_step parameter_step
    target_step clauses_step entry_step

unfoldable pub target_in_order : Target → Bool
target_in_order =
    folds.para-Target Bool Bool Bool Bool Bool Bool Bool argument_step clause_step expression_step parameter_step
    target_step clauses_step entry_step

-- ---- statements

abbrev pub every : List Bool → Bool
every [] = true
every (b ∷ bs) = b && every bs

abbrev pub value_in_order : Option Expression → Bool
value_in_order None = true
value_in_order (Some x) = in_order x

abbrev pub form_step : form.Form-F Bool Bool Bool → Bool
form_step (form.Expression x) = in_order x
form_step (form.Assign t x) = target_in_order t && in_order x
form_step (form.Augment t op x) = target_in_order t && in_order x
form_step (form.Return x) = value_in_order x
form_step (form.If arms otherwise) = every arms && every otherwise
form_step (form.For t x body) = target_in_order t && (in_order x && every body)
form_step (form.Def n ps body) = parameters_in_order ps && (every (map parameter_in_order ps) && every body)
form_step _ = true

abbrev pub arm_step : form.Arm-F Bool Bool Bool → Bool
arm_step a = in_order a.condition && every a.body

abbrev pub statement_step : form.Statement-F Bool Bool Bool → Bool
statement_step s = s.form

-- each list of arguments and of parameters in a statement is in order
unfoldable pub statement_in_order : Statement → Bool
statement_in_order = form_folds.fold-Statement Bool Bool Bool form_step arm_step statement_step

-- ---- laws

-- an expression can be written with a parenthesis round each part, before any leaves
abbrev pub Writable : Expression → Type 0
Writable x = (us : List ValuedToken) → (ts : List ValuedToken) × Written x ts us

-- The law: so can each expression that is in order.
abbrev pub AllWritable : Type 0
AllWritable = (x : Expression) → in_order x ≡ true → Writable x

-- The law: an expression that is read, at any level of the grammar, is in order.
abbrev pub ReadInOrder : Type 0
ReadInOrder =
    (l : Level) (x : Expression) (ts us : List ValuedToken) → Reads rule sorts.expression (nonterminal (level l)) ts (Some (x, us))
    → in_order x ≡ true

-- The law: so is each statement of a file's reading.
abbrev pub TreeInOrder : Type 0
TreeInOrder =
    (tree : List Statement) (leaves : List ValuedToken) → Reading tree leaves → every (map statement_in_order tree) ≡ true

-- The law: an expression that is read has a writing with a parenthesis round each part, which reads back as that
-- expression.
abbrev pub ReadIsWritten : Type 0
ReadIsWritten =
    (x : Expression) (ts us vs : List ValuedToken) → Reads rule sorts.expression (nonterminal (level levels.Test)) ts (Some (x, us))
    → Stops vs
    → (ws : List ValuedToken) × Written x ws vs × Reads rule sorts.expression (nonterminal (level levels.Test)) ws (Some (x, vs))
