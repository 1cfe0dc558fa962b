-- Nothing is misplaced in the definitions of an expression, a target or a parameter: their bodies are expressions.
use Rattle.std.proofs.Common.{◌≡◌, ℕ, List, [], ◌∷◌, ◌++◌, map, Some, None, sym, subst}
use Rattle.star_tree.specs.declared.tree.Argument.{Argument, roll-Argument, para-roll-Argument}
use Rattle.star_tree.specs.declared.tree.Clause.{Clause, roll-Clause, para-roll-Clause}
use Rattle.star_tree.specs.declared.tree.Expression.{Expression, roll-Expression, para-roll-Expression, ind-Expression}
use Rattle.star_tree.specs.declared.tree.Parameter.{Parameter, roll-Parameter, para-roll-Parameter, ind-Parameter}
use Rattle.star_tree.specs.declared.tree.Target.{Target, roll-Target, para-roll-Target, ind-Target}
use Rattle.star_tree.specs.declared.tree.Clauses.{Clauses, roll-Clauses, para-roll-Clauses}
use Rattle.star_tree.specs.declared.tree.Entry.{Entry, roll-Entry, para-roll-Entry}
use Rattle.star_tree.specs.declared.tree.Argument.TheOpen as tree
use Rattle.star_tree.specs.declared.tree.Argument.TheFolds as folds
use Rattle.star_outline.specs.declared.outline.Found.{Found}
use Rattle.star_outline.specs.Definitions.{Answer, Definition}
use Rattle.star_outline.specs.Outlines as found
use Rattle.star_outline.specs.Outlines.{and, nothing, definition, comprehension, in_all}
use Rattle.star_unseen.specs.Veil.{Every}
use Rattle.star_unseen.specs.Shelves.{BodyIsPlaced}

abbrev pub IsPlaced : Definition → Type 0
IsPlaced d = BodyIsPlaced d.body

-- nothing is misplaced in the bodies of the definitions of a part
pub record Placed (f : Found) : Type 0 where
  pub holds : Every IsPlaced f.definitions

pub every_both : {A : Type 0} (Q : A → Type 0) (xs ys : List A) → Every Q xs → Every Q ys → Every Q (xs ++ ys)
every_both Q [] ys h k = k
every_both Q (x ∷ xs) ys h k = (h.0, every_both Q xs ys h.1 k)

pub everyone : {A : Type 0} (Q : A → Type 0) (ys : List ((x : A) × Q x)) → Every Q (map (λ z. z.0) ys)
everyone Q [] = tt
everyone Q (y ∷ ys) = (y.1, everyone Q ys)

pub placed_is : (f g : Found) → g ≡ f → Placed f → Placed g
placed_is f g e h = subst Placed (sym e) h

pub placed_none : Placed nothing
unfolding nothing
placed_none = record { holds = tt }

pub placed_both : (f g : Found) → Placed f → Placed g → Placed (and f g)
unfolding and
placed_both f g h k = record { holds = every_both IsPlaced f.definitions g.definitions h.holds k.holds }

pub placed_all : {A : Type 0} (f : A → Found) (xs : List A) → Every (λ x. Placed (f x)) xs → Placed (in_all (map (λ z. (z, f z)) xs))
placed_all f [] h = placed_none
placed_all f (x ∷ xs) h = placed_both (f x) (in_all (map (λ z. (z, f z)) xs)) h.0 (placed_all f xs h.1)

answer_placed : (number : ℕ) (ps : List Parameter) (e : Expression) → Placed (definition number ps (Answer e))
unfolding definition
answer_placed number ps e = record { holds = (tt, tt) }

comprehension_placed : (number : ℕ) (cs : Clauses) → Placed (comprehension number cs)
unfolding comprehension
comprehension_placed number cs = record { holds = tt }

abbrev PA : Argument → Type 0
PA x = Placed (found.in_argument x)

abbrev PC : Clause → Type 0
PC x = Placed (found.in_clause x)

abbrev PE : Expression → Type 0
PE x = Placed (found.in_expression x)

abbrev PP : Parameter → Type 0
PP x = Placed (found.in_parameter x)

abbrev PT : Target → Type 0
PT x = Placed (found.in_target x)

abbrev PS : Clauses → Type 0
PS x = Placed (found.in_clauses x)

abbrev PN : Entry → Type 0
PN x = Placed (found.in_entry x)

abbrev SuchArgument : Type 0
SuchArgument = tree.Argument-F ((x : Argument) × PA x) ((x : Clause) × PC x) ((x : Expression) × PE x) ((x : Parameter) × PP x) ((x : Target) × PT x) ((x : Clauses) × PS x) ((x : Entry) × PN x)

abbrev bareArgument : SuchArgument → tree.Argument-F Argument Clause Expression Parameter Target Clauses Entry
bareArgument y = folds.map-Argument ((x : Argument) × PA x) ((x : Clause) × PC x) ((x : Expression) × PE x) ((x : Parameter) × PP x) ((x : Target) × PT x) ((x : Clauses) × PS x) ((x : Entry) × PN x) Argument Clause Expression Parameter Target Clauses Entry (λ z. z.0) (λ z. z.0) (λ z. z.0) (λ z. z.0) (λ z. z.0) (λ z. z.0) (λ z. z.0) y

abbrev SuchClause : Type 0
SuchClause = tree.Clause-F ((x : Argument) × PA x) ((x : Clause) × PC x) ((x : Expression) × PE x) ((x : Parameter) × PP x) ((x : Target) × PT x) ((x : Clauses) × PS x) ((x : Entry) × PN x)

abbrev bareClause : SuchClause → tree.Clause-F Argument Clause Expression Parameter Target Clauses Entry
bareClause y = folds.map-Clause ((x : Argument) × PA x) ((x : Clause) × PC x) ((x : Expression) × PE x) ((x : Parameter) × PP x) ((x : Target) × PT x) ((x : Clauses) × PS x) ((x : Entry) × PN x) Argument Clause Expression Parameter Target Clauses Entry (λ z. z.0) (λ z. z.0) (λ z. z.0) (λ z. z.0) (λ z. z.0) (λ z. z.0) (λ z. z.0) y

abbrev SuchExpression : Type 0
SuchExpression = tree.Expression-F ((x : Argument) × PA x) ((x : Clause) × PC x) ((x : Expression) × PE x) ((x : Parameter) × PP x) ((x : Target) × PT x) ((x : Clauses) × PS x) ((x : Entry) × PN x)

abbrev bareExpression : SuchExpression → tree.Expression-F Argument Clause Expression Parameter Target Clauses Entry
bareExpression y = folds.map-Expression ((x : Argument) × PA x) ((x : Clause) × PC x) ((x : Expression) × PE x) ((x : Parameter) × PP x) ((x : Target) × PT x) ((x : Clauses) × PS x) ((x : Entry) × PN x) Argument Clause Expression Parameter Target Clauses Entry (λ z. z.0) (λ z. z.0) (λ z. z.0) (λ z. z.0) (λ z. z.0) (λ z. z.0) (λ z. z.0) y

abbrev SuchParameter : Type 0
SuchParameter = tree.Parameter-F ((x : Argument) × PA x) ((x : Clause) × PC x) ((x : Expression) × PE x) ((x : Parameter) × PP x) ((x : Target) × PT x) ((x : Clauses) × PS x) ((x : Entry) × PN x)

abbrev bareParameter : SuchParameter → tree.Parameter-F Argument Clause Expression Parameter Target Clauses Entry
bareParameter y = folds.map-Parameter ((x : Argument) × PA x) ((x : Clause) × PC x) ((x : Expression) × PE x) ((x : Parameter) × PP x) ((x : Target) × PT x) ((x : Clauses) × PS x) ((x : Entry) × PN x) Argument Clause Expression Parameter Target Clauses Entry (λ z. z.0) (λ z. z.0) (λ z. z.0) (λ z. z.0) (λ z. z.0) (λ z. z.0) (λ z. z.0) y

abbrev SuchTarget : Type 0
SuchTarget = tree.Target-F ((x : Argument) × PA x) ((x : Clause) × PC x) ((x : Expression) × PE x) ((x : Parameter) × PP x) ((x : Target) × PT x) ((x : Clauses) × PS x) ((x : Entry) × PN x)

abbrev bareTarget : SuchTarget → tree.Target-F Argument Clause Expression Parameter Target Clauses Entry
bareTarget y = folds.map-Target ((x : Argument) × PA x) ((x : Clause) × PC x) ((x : Expression) × PE x) ((x : Parameter) × PP x) ((x : Target) × PT x) ((x : Clauses) × PS x) ((x : Entry) × PN x) Argument Clause Expression Parameter Target Clauses Entry (λ z. z.0) (λ z. z.0) (λ z. z.0) (λ z. z.0) (λ z. z.0) (λ z. z.0) (λ z. z.0) y

abbrev SuchClauses : Type 0
SuchClauses = tree.Clauses-F ((x : Argument) × PA x) ((x : Clause) × PC x) ((x : Expression) × PE x) ((x : Parameter) × PP x) ((x : Target) × PT x) ((x : Clauses) × PS x) ((x : Entry) × PN x)

abbrev bareClauses : SuchClauses → tree.Clauses-F Argument Clause Expression Parameter Target Clauses Entry
bareClauses y = folds.map-Clauses ((x : Argument) × PA x) ((x : Clause) × PC x) ((x : Expression) × PE x) ((x : Parameter) × PP x) ((x : Target) × PT x) ((x : Clauses) × PS x) ((x : Entry) × PN x) Argument Clause Expression Parameter Target Clauses Entry (λ z. z.0) (λ z. z.0) (λ z. z.0) (λ z. z.0) (λ z. z.0) (λ z. z.0) (λ z. z.0) y

abbrev SuchEntry : Type 0
SuchEntry = tree.Entry-F ((x : Argument) × PA x) ((x : Clause) × PC x) ((x : Expression) × PE x) ((x : Parameter) × PP x) ((x : Target) × PT x) ((x : Clauses) × PS x) ((x : Entry) × PN x)

abbrev bareEntry : SuchEntry → tree.Entry-F Argument Clause Expression Parameter Target Clauses Entry
bareEntry y = folds.map-Entry ((x : Argument) × PA x) ((x : Clause) × PC x) ((x : Expression) × PE x) ((x : Parameter) × PP x) ((x : Target) × PT x) ((x : Clauses) × PS x) ((x : Entry) × PN x) Argument Clause Expression Parameter Target Clauses Entry (λ z. z.0) (λ z. z.0) (λ z. z.0) (λ z. z.0) (λ z. z.0) (λ z. z.0) (λ z. z.0) y

argument-made : (y : SuchArgument) → PA (roll-Argument (bareArgument y))
argument-made (tree.Positional e) = placed_is _ _ (para-roll-Argument Found Found Found Found Found Found Found found.argument_found found.clause_found found.expression_found found.parameter_found found.target_found found.clauses_found found.entry_found (bareArgument (tree.Positional e))) (e.1)
argument-made (tree.Named x e) = placed_is _ _ (para-roll-Argument Found Found Found Found Found Found Found found.argument_found found.clause_found found.expression_found found.parameter_found found.target_found found.clauses_found found.entry_found (bareArgument (tree.Named x e))) (e.1)
argument-made (tree.Argument-F.Argument::Star e) = placed_is _ _ (para-roll-Argument Found Found Found Found Found Found Found found.argument_found found.clause_found found.expression_found found.parameter_found found.target_found found.clauses_found found.entry_found (bareArgument (tree.Argument-F.Argument::Star e))) (e.1)
argument-made (tree.Argument-F.Argument::StarStar e) = placed_is _ _ (para-roll-Argument Found Found Found Found Found Found Found found.argument_found found.clause_found found.expression_found found.parameter_found found.target_found found.clauses_found found.entry_found (bareArgument (tree.Argument-F.Argument::StarStar e))) (e.1)

clause-made : (y : SuchClause) → PC (roll-Clause (bareClause y))
clause-made (tree.For t e) = placed_is _ _ (para-roll-Clause Found Found Found Found Found Found Found found.argument_found found.clause_found found.expression_found found.parameter_found found.target_found found.clauses_found found.entry_found (bareClause (tree.For t e))) (placed_both _ _ (t.1) (e.1))
clause-made (tree.If e) = placed_is _ _ (para-roll-Clause Found Found Found Found Found Found Found found.argument_found found.clause_found found.expression_found found.parameter_found found.target_found found.clauses_found found.entry_found (bareClause (tree.If e))) (e.1)

target-made : (y : SuchTarget) → PT (roll-Target (bareTarget y))
target-made (tree.Target-F.Target::Name x) = placed_is _ _ (para-roll-Target Found Found Found Found Found Found Found found.argument_found found.clause_found found.expression_found found.parameter_found found.target_found found.clauses_found found.entry_found (bareTarget (tree.Target-F.Target::Name x))) (placed_none)
target-made (tree.Target-F.Target::Index a b) = placed_is _ _ (para-roll-Target Found Found Found Found Found Found Found found.argument_found found.clause_found found.expression_found found.parameter_found found.target_found found.clauses_found found.entry_found (bareTarget (tree.Target-F.Target::Index a b))) (placed_both _ _ (a.1) (b.1))
target-made (tree.Target-F.Target::Tuple ts) = placed_is _ _ (para-roll-Target Found Found Found Found Found Found Found found.argument_found found.clause_found found.expression_found found.parameter_found found.target_found found.clauses_found found.entry_found (bareTarget (tree.Target-F.Target::Tuple ts))) (placed_all found.in_target _ (everyone PT ts))
target-made (tree.Target-F.Target::List ts) = placed_is _ _ (para-roll-Target Found Found Found Found Found Found Found found.argument_found found.clause_found found.expression_found found.parameter_found found.target_found found.clauses_found found.entry_found (bareTarget (tree.Target-F.Target::List ts))) (placed_all found.in_target _ (everyone PT ts))

parameter-made : (y : SuchParameter) → PP (roll-Parameter (bareParameter y))
parameter-made (tree.Plain x) = placed_is _ _ (para-roll-Parameter Found Found Found Found Found Found Found found.argument_found found.clause_found found.expression_found found.parameter_found found.target_found found.clauses_found found.entry_found (bareParameter (tree.Plain x))) (placed_none)
parameter-made (tree.Default x e) = placed_is _ _ (para-roll-Parameter Found Found Found Found Found Found Found found.argument_found found.clause_found found.expression_found found.parameter_found found.target_found found.clauses_found found.entry_found (bareParameter (tree.Default x e))) (e.1)
parameter-made (tree.Parameter-F.Parameter::Star x) = placed_is _ _ (para-roll-Parameter Found Found Found Found Found Found Found found.argument_found found.clause_found found.expression_found found.parameter_found found.target_found found.clauses_found found.entry_found (bareParameter (tree.Parameter-F.Parameter::Star x))) (placed_none)
parameter-made tree.BareStar = placed_is _ _ (para-roll-Parameter Found Found Found Found Found Found Found found.argument_found found.clause_found found.expression_found found.parameter_found found.target_found found.clauses_found found.entry_found (bareParameter tree.BareStar)) (placed_none)
parameter-made (tree.Parameter-F.Parameter::StarStar x) = placed_is _ _ (para-roll-Parameter Found Found Found Found Found Found Found found.argument_found found.clause_found found.expression_found found.parameter_found found.target_found found.clauses_found found.entry_found (bareParameter (tree.Parameter-F.Parameter::StarStar x))) (placed_none)

entry-made : (y : SuchEntry) → PN (roll-Entry (bareEntry y))
entry-made y = placed_is _ _ (para-roll-Entry Found Found Found Found Found Found Found found.argument_found found.clause_found found.expression_found found.parameter_found found.target_found found.clauses_found found.entry_found (bareEntry y)) (placed_both _ _ (y.key.1) (y.value.1))

clauses-made : (y : SuchClauses) → PS (roll-Clauses (bareClauses y))
clauses-made y = placed_is _ _ (para-roll-Clauses Found Found Found Found Found Found Found found.argument_found found.clause_found found.expression_found found.parameter_found found.target_found found.clauses_found found.entry_found (bareClauses y)) (placed_both _ _ (y.target.1) (placed_both _ _ (y.iterable.1) (placed_all found.in_clause _ (everyone PC y.more))))

expression-made : (y : SuchExpression) → PE (roll-Expression (bareExpression y))
expression-made (tree.Expression-F.Expression::Name x) = placed_is _ _ (para-roll-Expression Found Found Found Found Found Found Found found.argument_found found.clause_found found.expression_found found.parameter_found found.target_found found.clauses_found found.entry_found (bareExpression (tree.Expression-F.Expression::Name x))) (placed_none)
expression-made (tree.Int i) = placed_is _ _ (para-roll-Expression Found Found Found Found Found Found Found found.argument_found found.clause_found found.expression_found found.parameter_found found.target_found found.clauses_found found.entry_found (bareExpression (tree.Int i))) (placed_none)
expression-made (tree.Text x) = placed_is _ _ (para-roll-Expression Found Found Found Found Found Found Found found.argument_found found.clause_found found.expression_found found.parameter_found found.target_found found.clauses_found found.entry_found (bareExpression (tree.Text x))) (placed_none)
expression-made (tree.Expression-F.Expression::Tuple es) = placed_is _ _ (para-roll-Expression Found Found Found Found Found Found Found found.argument_found found.clause_found found.expression_found found.parameter_found found.target_found found.clauses_found found.entry_found (bareExpression (tree.Expression-F.Expression::Tuple es))) (placed_all found.in_expression _ (everyone PE es))
expression-made (tree.Expression-F.Expression::List es) = placed_is _ _ (para-roll-Expression Found Found Found Found Found Found Found found.argument_found found.clause_found found.expression_found found.parameter_found found.target_found found.clauses_found found.entry_found (bareExpression (tree.Expression-F.Expression::List es))) (placed_all found.in_expression _ (everyone PE es))
expression-made (tree.Dict es) = placed_is _ _ (para-roll-Expression Found Found Found Found Found Found Found found.argument_found found.clause_found found.expression_found found.parameter_found found.target_found found.clauses_found found.entry_found (bareExpression (tree.Dict es))) (placed_all found.in_entry _ (everyone PN es))
expression-made (tree.ListComprehension at e cs) = placed_is _ _ (para-roll-Expression Found Found Found Found Found Found Found found.argument_found found.clause_found found.expression_found found.parameter_found found.target_found found.clauses_found found.entry_found (bareExpression (tree.ListComprehension at e cs))) (placed_both _ _ (comprehension_placed _ _) (placed_both _ _ (e.1) (cs.1)))
expression-made (tree.DictComprehension at e cs) = placed_is _ _ (para-roll-Expression Found Found Found Found Found Found Found found.argument_found found.clause_found found.expression_found found.parameter_found found.target_found found.clauses_found found.entry_found (bareExpression (tree.DictComprehension at e cs))) (placed_both _ _ (comprehension_placed _ _) (placed_both _ _ (e.1) (cs.1)))
expression-made (tree.Unary op e) = placed_is _ _ (para-roll-Expression Found Found Found Found Found Found Found found.argument_found found.clause_found found.expression_found found.parameter_found found.target_found found.clauses_found found.entry_found (bareExpression (tree.Unary op e))) (e.1)
expression-made (tree.Binary op a b) = placed_is _ _ (para-roll-Expression Found Found Found Found Found Found Found found.argument_found found.clause_found found.expression_found found.parameter_found found.target_found found.clauses_found found.entry_found (bareExpression (tree.Binary op a b))) (placed_both _ _ (a.1) (b.1))
expression-made (tree.Compare op a b) = placed_is _ _ (para-roll-Expression Found Found Found Found Found Found Found found.argument_found found.clause_found found.expression_found found.parameter_found found.target_found found.clauses_found found.entry_found (bareExpression (tree.Compare op a b))) (placed_both _ _ (a.1) (b.1))
expression-made (tree.And a b) = placed_is _ _ (para-roll-Expression Found Found Found Found Found Found Found found.argument_found found.clause_found found.expression_found found.parameter_found found.target_found found.clauses_found found.entry_found (bareExpression (tree.And a b))) (placed_both _ _ (a.1) (b.1))
expression-made (tree.Or a b) = placed_is _ _ (para-roll-Expression Found Found Found Found Found Found Found found.argument_found found.clause_found found.expression_found found.parameter_found found.target_found found.clauses_found found.entry_found (bareExpression (tree.Or a b))) (placed_both _ _ (a.1) (b.1))
expression-made (tree.Expression-F.Expression::Index a b) = placed_is _ _ (para-roll-Expression Found Found Found Found Found Found Found found.argument_found found.clause_found found.expression_found found.parameter_found found.target_found found.clauses_found found.entry_found (bareExpression (tree.Expression-F.Expression::Index a b))) (placed_both _ _ (a.1) (b.1))
expression-made (tree.Conditional x a b) = placed_is _ _ (para-roll-Expression Found Found Found Found Found Found Found found.argument_found found.clause_found found.expression_found found.parameter_found found.target_found found.clauses_found found.entry_found (bareExpression (tree.Conditional x a b))) (placed_both _ _ (x.1) (placed_both _ _ (a.1) (b.1)))
expression-made (tree.Lambda at ps e) = placed_is _ _ (para-roll-Expression Found Found Found Found Found Found Found found.argument_found found.clause_found found.expression_found found.parameter_found found.target_found found.clauses_found found.entry_found (bareExpression (tree.Lambda at ps e))) (placed_both _ _ (answer_placed _ _ _) (placed_both _ _ (placed_all found.in_parameter _ (everyone PP ps)) (e.1)))
expression-made (tree.Call x es) = placed_is _ _ (para-roll-Expression Found Found Found Found Found Found Found found.argument_found found.clause_found found.expression_found found.parameter_found found.target_found found.clauses_found found.entry_found (bareExpression (tree.Call x es))) (placed_both _ _ (x.1) (placed_all found.in_argument _ (everyone PA es)))
expression-made (tree.Attribute x a) = placed_is _ _ (para-roll-Expression Found Found Found Found Found Found Found found.argument_found found.clause_found found.expression_found found.parameter_found found.target_found found.clauses_found found.entry_found (bareExpression (tree.Attribute x a))) (x.1)
expression-made (tree.Slice x None None None) = placed_is _ _ (para-roll-Expression Found Found Found Found Found Found Found found.argument_found found.clause_found found.expression_found found.parameter_found found.target_found found.clauses_found found.entry_found (bareExpression (tree.Slice x None None None))) (placed_both _ _ (x.1) (placed_both _ _ (placed_none) (placed_both _ _ (placed_none) (placed_none))))
expression-made (tree.Slice x None None (Some d)) = placed_is _ _ (para-roll-Expression Found Found Found Found Found Found Found found.argument_found found.clause_found found.expression_found found.parameter_found found.target_found found.clauses_found found.entry_found (bareExpression (tree.Slice x None None (Some d)))) (placed_both _ _ (x.1) (placed_both _ _ (placed_none) (placed_both _ _ (placed_none) (d.1))))
expression-made (tree.Slice x None (Some b) None) = placed_is _ _ (para-roll-Expression Found Found Found Found Found Found Found found.argument_found found.clause_found found.expression_found found.parameter_found found.target_found found.clauses_found found.entry_found (bareExpression (tree.Slice x None (Some b) None))) (placed_both _ _ (x.1) (placed_both _ _ (placed_none) (placed_both _ _ (b.1) (placed_none))))
expression-made (tree.Slice x None (Some b) (Some d)) = placed_is _ _ (para-roll-Expression Found Found Found Found Found Found Found found.argument_found found.clause_found found.expression_found found.parameter_found found.target_found found.clauses_found found.entry_found (bareExpression (tree.Slice x None (Some b) (Some d)))) (placed_both _ _ (x.1) (placed_both _ _ (placed_none) (placed_both _ _ (b.1) (d.1))))
expression-made (tree.Slice x (Some a) None None) = placed_is _ _ (para-roll-Expression Found Found Found Found Found Found Found found.argument_found found.clause_found found.expression_found found.parameter_found found.target_found found.clauses_found found.entry_found (bareExpression (tree.Slice x (Some a) None None))) (placed_both _ _ (x.1) (placed_both _ _ (a.1) (placed_both _ _ (placed_none) (placed_none))))
expression-made (tree.Slice x (Some a) None (Some d)) = placed_is _ _ (para-roll-Expression Found Found Found Found Found Found Found found.argument_found found.clause_found found.expression_found found.parameter_found found.target_found found.clauses_found found.entry_found (bareExpression (tree.Slice x (Some a) None (Some d)))) (placed_both _ _ (x.1) (placed_both _ _ (a.1) (placed_both _ _ (placed_none) (d.1))))
expression-made (tree.Slice x (Some a) (Some b) None) = placed_is _ _ (para-roll-Expression Found Found Found Found Found Found Found found.argument_found found.clause_found found.expression_found found.parameter_found found.target_found found.clauses_found found.entry_found (bareExpression (tree.Slice x (Some a) (Some b) None))) (placed_both _ _ (x.1) (placed_both _ _ (a.1) (placed_both _ _ (b.1) (placed_none))))
expression-made (tree.Slice x (Some a) (Some b) (Some d)) = placed_is _ _ (para-roll-Expression Found Found Found Found Found Found Found found.argument_found found.clause_found found.expression_found found.parameter_found found.target_found found.clauses_found found.entry_found (bareExpression (tree.Slice x (Some a) (Some b) (Some d)))) (placed_both _ _ (x.1) (placed_both _ _ (a.1) (placed_both _ _ (b.1) (d.1))))

pub expression-placed : (x : Expression) → Placed (found.in_expression x)
expression-placed x = ind-Expression PA PC PE PP PT PS PN (λ x' y p. subst (λ z. PA (roll-Argument z)) p (argument-made y)) (λ x' y p. subst (λ z. PC (roll-Clause z)) p (clause-made y)) (λ x' y p. subst (λ z. PE (roll-Expression z)) p (expression-made y)) (λ x' y p. subst (λ z. PP (roll-Parameter z)) p (parameter-made y)) (λ x' y p. subst (λ z. PT (roll-Target z)) p (target-made y)) (λ x' y p. subst (λ z. PS (roll-Clauses z)) p (clauses-made y)) (λ x' y p. subst (λ z. PN (roll-Entry z)) p (entry-made y)) x

pub target-placed : (x : Target) → Placed (found.in_target x)
target-placed x = ind-Target PA PC PE PP PT PS PN (λ x' y p. subst (λ z. PA (roll-Argument z)) p (argument-made y)) (λ x' y p. subst (λ z. PC (roll-Clause z)) p (clause-made y)) (λ x' y p. subst (λ z. PE (roll-Expression z)) p (expression-made y)) (λ x' y p. subst (λ z. PP (roll-Parameter z)) p (parameter-made y)) (λ x' y p. subst (λ z. PT (roll-Target z)) p (target-made y)) (λ x' y p. subst (λ z. PS (roll-Clauses z)) p (clauses-made y)) (λ x' y p. subst (λ z. PN (roll-Entry z)) p (entry-made y)) x

pub parameter-placed : (x : Parameter) → Placed (found.in_parameter x)
parameter-placed x = ind-Parameter PA PC PE PP PT PS PN (λ x' y p. subst (λ z. PA (roll-Argument z)) p (argument-made y)) (λ x' y p. subst (λ z. PC (roll-Clause z)) p (clause-made y)) (λ x' y p. subst (λ z. PE (roll-Expression z)) p (expression-made y)) (λ x' y p. subst (λ z. PP (roll-Parameter z)) p (parameter-made y)) (λ x' y p. subst (λ z. PT (roll-Target z)) p (target-made y)) (λ x' y p. subst (λ z. PS (roll-Clauses z)) p (clauses-made y)) (λ x' y p. subst (λ z. PN (roll-Entry z)) p (entry-made y)) x
