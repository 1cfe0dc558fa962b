-- The definition with a number is at that number: its parameters and its body are among the names of its file.
use Rattle.std.proofs.Common.{◌≡◌, ◌⊎◌, inl, inr, ℕ, zero, suc, ◌+◌, ◌<◌, List, [], ◌∷◌, ◌++◌, length, map, slice_index_or, Some, None, refl, ap, sym, subst, arith}
use Rattle.std.specs.List.{Contains}
use Rattle.std.proofs.lemmas.List.Elements.{Contains-append_cases, Contains-append_left, Contains-append_right}
use Rattle.star_tree.specs.declared.tree.Argument.{Argument, roll-Argument, para-roll-Argument}
use Rattle.star_tree.specs.declared.tree.Clause.{Clause, roll-Clause, para-roll-Clause}
use Rattle.star_tree.specs.declared.tree.Expression.{Expression, roll-Expression, para-roll-Expression, ind-Expression}
use Rattle.star_tree.specs.declared.tree.Parameter.{Parameter, roll-Parameter, para-roll-Parameter, ind-Parameter}
use Rattle.star_tree.specs.declared.tree.Target.{Target, roll-Target, para-roll-Target, ind-Target}
use Rattle.star_tree.specs.declared.tree.Clauses.{Clauses, roll-Clauses, para-roll-Clauses}
use Rattle.star_tree.specs.declared.tree.Entry.{Entry, roll-Entry, para-roll-Entry}
use Rattle.star_tree.specs.declared.tree.Name.{Name}
use Rattle.star_tree.specs.declared.tree.Argument.TheOpen as tree
use Rattle.star_tree.specs.declared.tree.Argument.TheFolds as folds
use Rattle.star_outline.specs.declared.outline.Found.{Found}
use Rattle.star_outline.specs.Definitions.{Body, Answer, Definition}
use Rattle.star_outline.specs.Outlines as found
use Rattle.star_outline.specs.Outlines.{and, nothing, definition, comprehension, in_all, outline}
use Rattle.star_scope.specs.Uses.{ClauseUses, Defined, Named, ParameterUses, Use, Within, also, argument_uses, clause_uses, clauses_uses, defined, each_use, entry_uses, expression_uses, in_argument, in_clause, in_clauses, in_entry, in_expression, in_parameter, in_parameters, in_target, inner_of, inside, one_use, outer_of, parameter_uses, target_uses}
use Rattle.star_meaning.proofs.Agree.{Every}
use Rattle.star_meaning.proofs.AgreeParts.{body_uses}
use Rattle.star_meaning.proofs.UsesOf.{Sub, by, left, parameters_are, right}

-- among these definitions is one with the number, whose parameters and body are in its own block, in a chain
pub record Standing (ds : List Definition) (ws : List Use) (number : ℕ) (b : List ℕ) : Type 0 where
  pub one : Definition
  pub among : Contains ds one
  pub is : one.number ≡ number
  pub inner : Sub (inner_of (in_parameters one.parameters) ((1 + number) ∷ b)) ws
  pub body : Sub (body_uses one.body ((1 + number) ∷ b)) ws

-- all definitions in a part are found in it
pub record Part (u : Within) (f : Found) : Type 0 where
  pub holds : (c : List ℕ) (ws : List Use) → Sub (u c) ws → (number : ℕ) (b : List ℕ) → Contains (u c) (Defined number b) → Standing f.definitions ws number b

nothing_in : (x : Use) → Contains [] x → ⊥
nothing_in x h = omega (arith, h.1)

named_at : (x : Name) (c b : List ℕ) (number : ℕ) (us : List Use) (k : ℕ) → k < length (Named x c ∷ us) → slice_index_or (Named x c ∷ us) k (Defined number b) ≡ Defined number b → Contains us (Defined number b)
named_at x c b number us zero l e = cc
named_at x c b number us (suc k) l e = (k, omega (arith, l), e)

pub part_none : (f : Found) → Part (λ c. []) f
part_none f = record { holds = λ c ws s number b h. elim (nothing_in (Defined number b) h) [ ] }

pub part_named : (x : Name) (f : Found) → Part (one_use x) f
part_named x f = record { holds = λ c ws s number b h. elim (nothing_in (Defined number b) (named_at x c b number [] h.0 h.1 h.2)) [ ] }

either : (us vs ws : List Use) (ds : List Definition) (number : ℕ) (b : List ℕ) → (Contains us (Defined number b) → Standing ds ws number b) → (Contains vs (Defined number b) → Standing ds ws number b) → Contains us (Defined number b) ⊎ Contains vs (Defined number b) → Standing ds ws number b
either us vs ws ds number b h k (inl x) = h x
either us vs ws ds number b h k (inr x) = k x

pub part_also : (u v : Within) (f : Found) → Part u f → Part v f → Part (also u v) f
part_also u v f h k = record { holds = λ c ws s number b x. either (u c) (v c) ws f.definitions number b (h.holds c ws (left (u c) (v c) ws s) number b) (k.holds c ws (right (u c) (v c) ws s) number b) (Contains-append_cases (u c) (v c) (Defined number b) x) }

pub part_left : (u : Within) (f g : Found) → Part u f → Part u (and f g)
unfolding and
part_left u f g h = record { holds = λ c ws s number b x. let d = h.holds c ws s number b x in record { one = d.one; among = Contains-append_left f.definitions g.definitions d.one d.among; is = d.is; inner = d.inner; body = d.body } }

pub part_right : (u : Within) (f g : Found) → Part u g → Part u (and f g)
unfolding and
part_right u f g h = record { holds = λ c ws s number b x. let d = h.holds c ws s number b x in record { one = d.one; among = Contains-append_right f.definitions g.definitions d.one d.among; is = d.is; inner = d.inner; body = d.body } }

pub part_both : (u v : Within) (f g : Found) → Part u f → Part v g → Part (also u v) (and f g)
part_both u v f g h k = part_also u v (and f g) (part_left u f g h) (part_right v f g k)

pub part_swap : (u v : Within) (f g : Found) → Part u f → Part v g → Part (also v u) (and f g)
part_swap u v f g h k = part_also v u (and f g) (part_right v f g k) (part_left u f g h)

pub part_inside : (token : ℕ) (u : Within) (f : Found) → Part u f → Part (inside token u) f
part_inside token u f h = record { holds = λ c ws s number b x. h.holds ((1 + token) ∷ c) ws s number b x }

pub part_is : (u v : Within) (f g : Found) → v ≡ u → g ≡ f → Part u f → Part v g
part_is u v f g a b h = subst (λ z. Part z g) (sym a) (subst (λ z. Part u z) (sym b) h)

pub part_all : {A : Type 0} (g : A → Within) (f : A → Found) (xs : List A) → Every (λ x. Part (g x) (f x)) xs → Part (each_use (map g xs)) (in_all (map (λ z. (z, f z)) xs))
part_all g f [] h = part_none _
part_all g f (x ∷ xs) h = part_both (g x) (each_use (map g xs)) (f x) (in_all (map (λ z. (z, f z)) xs)) h.0 (part_all g f xs h.1)

pub everyone : {A : Type 0} (P : A → Type 0) (ys : List ((x : A) × P x)) → Every P (map (λ z. z.0) ys)
everyone P [] = tt
everyone P (y ∷ ys) = (y.1, everyone P ys)

-- ---- a definition

own_at : (number n : ℕ) (c b : List ℕ) (k : ℕ) → k < length (Defined number c ∷ []) → slice_index_or (Defined number c ∷ []) k (Defined n b) ≡ Defined n b → (number ≡ n) × (c ≡ b)
own_at number n c b zero l e = (cc, cc)
own_at number n c b (suc k) l e = absurd (omega (arith, l))

abbrev pub Inner : List Parameter → Body → ℕ → List ℕ → List Use → Type 0
Inner ps body number c ws = Sub (inner_of (in_parameters ps) ((1 + number) ∷ c)) ws × Sub (body_uses body ((1 + number) ∷ c)) ws

own_standing : (number n : ℕ) (ps : List Parameter) (body : Body) (c b : List ℕ) (ws : List Use) (ds : List Definition) → Inner ps body number c ws → (number ≡ n) × (c ≡ b) → Standing (record { number = number; parameters = ps; body = body } ∷ ds) ws n b
own_standing number n ps body c b ws ds h e =
    let i : Inner ps body n b ws = subst (λ z. Inner ps body n z ws) e.1 (subst (λ z. Inner ps body z c ws) e.0 h) in
    record { one = record { number = number; parameters = ps; body = body }; among = (0, omega arith, refl); is = e.0; inner = i.0; body = i.1 }

pub part_definition : (number : ℕ) (ps : List Parameter) (body : Body) (r : Within) (g : Found) → Part r g
    → ((c : List ℕ) (ws : List Use) → Sub (r c) ws → Inner ps body number c ws)
    → Part (also (defined number) r) (and (definition number ps body) g)
unfolding and definition
part_definition number ps body r g h k = record {
  holds = λ c ws s n b x.
      let q : Sub (r c) ws = right (Defined number c ∷ []) (r c) ws s in
      let ds : List Definition = record { number = number; parameters = ps; body = body } ∷ g.definitions in
      either (Defined number c ∷ []) (r c) ws ds n b
      (λ i. own_standing number n ps body c b ws g.definitions (k c ws q) (own_at number n c b i.0 i.1 i.2))
      (λ i. let d = h.holds c ws q n b i in record { one = d.one; among = Contains-append_right (record { number = number; parameters = ps; body = body } ∷ []) g.definitions d.one d.among; is = d.is; inner = d.inner; body = d.body })
      (Contains-append_cases (Defined number c ∷ []) (r c) (Defined n b) x);
}

-- ---- expressions

abbrev PA : Argument → Type 0
PA x = Part (in_argument x) (found.in_argument x)

abbrev PC : Clause → Type 0
PC x = Part (in_clause x) (found.in_clause x)

abbrev PE : Expression → Type 0
PE x = Part (in_expression x) (found.in_expression x)

abbrev pub PP : Parameter → Type 0
PP x = Part (in_parameter x).outer (found.in_parameter x) × Part (in_parameter x).inner (found.in_parameter x)

abbrev PT : Target → Type 0
PT x = Part (in_target x) (found.in_target x)

abbrev PS : Clauses → Type 0
PS x = Part (in_clauses x).first (found.in_clauses x) × Part (in_clauses x).rest (found.in_clauses x)

abbrev PN : Entry → Type 0
PN x = Part (in_entry x) (found.in_entry x)

abbrev SuchArgument : Type 0
SuchArgument = tree.Argument-F ((x : Argument) × PA x) ((x : Clause) × PC x) ((x : Expression) × PE x) ((x : Parameter) × PP x) ((x : Target) × PT x) ((x : Clauses) × PS x) ((x : Entry) × PN x)

abbrev bareArgument : SuchArgument → tree.Argument-F Argument Clause Expression Parameter Target Clauses Entry
bareArgument y = folds.map-Argument ((x : Argument) × PA x) ((x : Clause) × PC x) ((x : Expression) × PE x) ((x : Parameter) × PP x) ((x : Target) × PT x) ((x : Clauses) × PS x) ((x : Entry) × PN x) Argument Clause Expression Parameter Target Clauses Entry (λ z. z.0) (λ z. z.0) (λ z. z.0) (λ z. z.0) (λ z. z.0) (λ z. z.0) (λ z. z.0) y

abbrev SuchClause : Type 0
SuchClause = tree.Clause-F ((x : Argument) × PA x) ((x : Clause) × PC x) ((x : Expression) × PE x) ((x : Parameter) × PP x) ((x : Target) × PT x) ((x : Clauses) × PS x) ((x : Entry) × PN x)

abbrev bareClause : SuchClause → tree.Clause-F Argument Clause Expression Parameter Target Clauses Entry
bareClause y = folds.map-Clause ((x : Argument) × PA x) ((x : Clause) × PC x) ((x : Expression) × PE x) ((x : Parameter) × PP x) ((x : Target) × PT x) ((x : Clauses) × PS x) ((x : Entry) × PN x) Argument Clause Expression Parameter Target Clauses Entry (λ z. z.0) (λ z. z.0) (λ z. z.0) (λ z. z.0) (λ z. z.0) (λ z. z.0) (λ z. z.0) y

abbrev SuchExpression : Type 0
SuchExpression = tree.Expression-F ((x : Argument) × PA x) ((x : Clause) × PC x) ((x : Expression) × PE x) ((x : Parameter) × PP x) ((x : Target) × PT x) ((x : Clauses) × PS x) ((x : Entry) × PN x)

abbrev bareExpression : SuchExpression → tree.Expression-F Argument Clause Expression Parameter Target Clauses Entry
bareExpression y = folds.map-Expression ((x : Argument) × PA x) ((x : Clause) × PC x) ((x : Expression) × PE x) ((x : Parameter) × PP x) ((x : Target) × PT x) ((x : Clauses) × PS x) ((x : Entry) × PN x) Argument Clause Expression Parameter Target Clauses Entry (λ z. z.0) (λ z. z.0) (λ z. z.0) (λ z. z.0) (λ z. z.0) (λ z. z.0) (λ z. z.0) y

abbrev SuchParameter : Type 0
SuchParameter = tree.Parameter-F ((x : Argument) × PA x) ((x : Clause) × PC x) ((x : Expression) × PE x) ((x : Parameter) × PP x) ((x : Target) × PT x) ((x : Clauses) × PS x) ((x : Entry) × PN x)

abbrev bareParameter : SuchParameter → tree.Parameter-F Argument Clause Expression Parameter Target Clauses Entry
bareParameter y = folds.map-Parameter ((x : Argument) × PA x) ((x : Clause) × PC x) ((x : Expression) × PE x) ((x : Parameter) × PP x) ((x : Target) × PT x) ((x : Clauses) × PS x) ((x : Entry) × PN x) Argument Clause Expression Parameter Target Clauses Entry (λ z. z.0) (λ z. z.0) (λ z. z.0) (λ z. z.0) (λ z. z.0) (λ z. z.0) (λ z. z.0) y

abbrev SuchTarget : Type 0
SuchTarget = tree.Target-F ((x : Argument) × PA x) ((x : Clause) × PC x) ((x : Expression) × PE x) ((x : Parameter) × PP x) ((x : Target) × PT x) ((x : Clauses) × PS x) ((x : Entry) × PN x)

abbrev bareTarget : SuchTarget → tree.Target-F Argument Clause Expression Parameter Target Clauses Entry
bareTarget y = folds.map-Target ((x : Argument) × PA x) ((x : Clause) × PC x) ((x : Expression) × PE x) ((x : Parameter) × PP x) ((x : Target) × PT x) ((x : Clauses) × PS x) ((x : Entry) × PN x) Argument Clause Expression Parameter Target Clauses Entry (λ z. z.0) (λ z. z.0) (λ z. z.0) (λ z. z.0) (λ z. z.0) (λ z. z.0) (λ z. z.0) y

abbrev SuchClauses : Type 0
SuchClauses = tree.Clauses-F ((x : Argument) × PA x) ((x : Clause) × PC x) ((x : Expression) × PE x) ((x : Parameter) × PP x) ((x : Target) × PT x) ((x : Clauses) × PS x) ((x : Entry) × PN x)

abbrev bareClauses : SuchClauses → tree.Clauses-F Argument Clause Expression Parameter Target Clauses Entry
bareClauses y = folds.map-Clauses ((x : Argument) × PA x) ((x : Clause) × PC x) ((x : Expression) × PE x) ((x : Parameter) × PP x) ((x : Target) × PT x) ((x : Clauses) × PS x) ((x : Entry) × PN x) Argument Clause Expression Parameter Target Clauses Entry (λ z. z.0) (λ z. z.0) (λ z. z.0) (λ z. z.0) (λ z. z.0) (λ z. z.0) (λ z. z.0) y

abbrev SuchEntry : Type 0
SuchEntry = tree.Entry-F ((x : Argument) × PA x) ((x : Clause) × PC x) ((x : Expression) × PE x) ((x : Parameter) × PP x) ((x : Target) × PT x) ((x : Clauses) × PS x) ((x : Entry) × PN x)

abbrev bareEntry : SuchEntry → tree.Entry-F Argument Clause Expression Parameter Target Clauses Entry
bareEntry y = folds.map-Entry ((x : Argument) × PA x) ((x : Clause) × PC x) ((x : Expression) × PE x) ((x : Parameter) × PP x) ((x : Target) × PT x) ((x : Clauses) × PS x) ((x : Entry) × PN x) Argument Clause Expression Parameter Target Clauses Entry (λ z. z.0) (λ z. z.0) (λ z. z.0) (λ z. z.0) (λ z. z.0) (λ z. z.0) (λ z. z.0) y

abbrev pub found_all : {A : Type 0} → (A → Found) → List A → Found
found_all f xs = in_all (map (λ z. (z, f z)) xs)

pub part_outer : (xs : List Parameter) → Every PP xs → Part (outer_of (map in_parameter xs)) (found_all found.in_parameter xs)
part_outer [] h = part_none _
part_outer (x ∷ xs) h = part_both (in_parameter x).outer (outer_of (map in_parameter xs)) (found.in_parameter x) (found_all found.in_parameter xs) (h.0).0 (part_outer xs h.1)

pub part_inner : (xs : List Parameter) → Every PP xs → Part (inner_of (map in_parameter xs)) (found_all found.in_parameter xs)
part_inner [] h = part_none _
part_inner (x ∷ xs) h = part_both (in_parameter x).inner (inner_of (map in_parameter xs)) (found.in_parameter x) (found_all found.in_parameter xs) (h.0).1 (part_inner xs h.1)

firsts_are : (xs : List Parameter) → found.firsts (map (λ z. (z, found.in_parameter z)) xs) ≡ xs
firsts_are [] = refl
firsts_are (x ∷ xs) = ap (λ ys. x ∷ ys) (firsts_are xs)

argument-made : (y : SuchArgument) → PA (roll-Argument (bareArgument y))
argument-made (tree.Positional e) = part_is _ _ _ _ (folds.fold-roll-Argument Within Within Within ParameterUses Within ClauseUses Within argument_uses clause_uses expression_uses parameter_uses target_uses clauses_uses entry_uses (bareArgument (tree.Positional e))) (para-roll-Argument Found Found Found Found Found Found Found found.argument_found found.clause_found found.expression_found found.parameter_found found.target_found found.clauses_found found.entry_found (bareArgument (tree.Positional e))) (e.1)
argument-made (tree.Named x e) = part_is _ _ _ _ (folds.fold-roll-Argument Within Within Within ParameterUses Within ClauseUses Within argument_uses clause_uses expression_uses parameter_uses target_uses clauses_uses entry_uses (bareArgument (tree.Named x e))) (para-roll-Argument Found Found Found Found Found Found Found found.argument_found found.clause_found found.expression_found found.parameter_found found.target_found found.clauses_found found.entry_found (bareArgument (tree.Named x e))) (e.1)
argument-made (tree.Argument-F.Argument::Star e) = part_is _ _ _ _ (folds.fold-roll-Argument Within Within Within ParameterUses Within ClauseUses Within argument_uses clause_uses expression_uses parameter_uses target_uses clauses_uses entry_uses (bareArgument (tree.Argument-F.Argument::Star e))) (para-roll-Argument Found Found Found Found Found Found Found found.argument_found found.clause_found found.expression_found found.parameter_found found.target_found found.clauses_found found.entry_found (bareArgument (tree.Argument-F.Argument::Star e))) (e.1)
argument-made (tree.Argument-F.Argument::StarStar e) = part_is _ _ _ _ (folds.fold-roll-Argument Within Within Within ParameterUses Within ClauseUses Within argument_uses clause_uses expression_uses parameter_uses target_uses clauses_uses entry_uses (bareArgument (tree.Argument-F.Argument::StarStar e))) (para-roll-Argument Found Found Found Found Found Found Found found.argument_found found.clause_found found.expression_found found.parameter_found found.target_found found.clauses_found found.entry_found (bareArgument (tree.Argument-F.Argument::StarStar e))) (e.1)

clause-made : (y : SuchClause) → PC (roll-Clause (bareClause y))
clause-made (tree.For t e) = part_is _ _ _ _ (folds.fold-roll-Clause Within Within Within ParameterUses Within ClauseUses Within argument_uses clause_uses expression_uses parameter_uses target_uses clauses_uses entry_uses (bareClause (tree.For t e))) (para-roll-Clause Found Found Found Found Found Found Found found.argument_found found.clause_found found.expression_found found.parameter_found found.target_found found.clauses_found found.entry_found (bareClause (tree.For t e))) (part_both (in_target t.0) (in_expression e.0) (found.in_target t.0) (found.in_expression e.0) t.1 e.1)
clause-made (tree.If e) = part_is _ _ _ _ (folds.fold-roll-Clause Within Within Within ParameterUses Within ClauseUses Within argument_uses clause_uses expression_uses parameter_uses target_uses clauses_uses entry_uses (bareClause (tree.If e))) (para-roll-Clause Found Found Found Found Found Found Found found.argument_found found.clause_found found.expression_found found.parameter_found found.target_found found.clauses_found found.entry_found (bareClause (tree.If e))) (e.1)

target-made : (y : SuchTarget) → PT (roll-Target (bareTarget y))
target-made (tree.Target-F.Target::Name x) = part_is _ _ _ _ (folds.fold-roll-Target Within Within Within ParameterUses Within ClauseUses Within argument_uses clause_uses expression_uses parameter_uses target_uses clauses_uses entry_uses (bareTarget (tree.Target-F.Target::Name x))) (para-roll-Target Found Found Found Found Found Found Found found.argument_found found.clause_found found.expression_found found.parameter_found found.target_found found.clauses_found found.entry_found (bareTarget (tree.Target-F.Target::Name x))) (part_named x _)
target-made (tree.Target-F.Target::Index a b) = part_is _ _ _ _ (folds.fold-roll-Target Within Within Within ParameterUses Within ClauseUses Within argument_uses clause_uses expression_uses parameter_uses target_uses clauses_uses entry_uses (bareTarget (tree.Target-F.Target::Index a b))) (para-roll-Target Found Found Found Found Found Found Found found.argument_found found.clause_found found.expression_found found.parameter_found found.target_found found.clauses_found found.entry_found (bareTarget (tree.Target-F.Target::Index a b))) (part_both (in_expression a.0) (in_expression b.0) (found.in_expression a.0) (found.in_expression b.0) a.1 b.1)
target-made (tree.Target-F.Target::Tuple ts) = part_is _ _ _ _ (folds.fold-roll-Target Within Within Within ParameterUses Within ClauseUses Within argument_uses clause_uses expression_uses parameter_uses target_uses clauses_uses entry_uses (bareTarget (tree.Target-F.Target::Tuple ts))) (para-roll-Target Found Found Found Found Found Found Found found.argument_found found.clause_found found.expression_found found.parameter_found found.target_found found.clauses_found found.entry_found (bareTarget (tree.Target-F.Target::Tuple ts))) (part_all in_target found.in_target _ (everyone PT ts))
target-made (tree.Target-F.Target::List ts) = part_is _ _ _ _ (folds.fold-roll-Target Within Within Within ParameterUses Within ClauseUses Within argument_uses clause_uses expression_uses parameter_uses target_uses clauses_uses entry_uses (bareTarget (tree.Target-F.Target::List ts))) (para-roll-Target Found Found Found Found Found Found Found found.argument_found found.clause_found found.expression_found found.parameter_found found.target_found found.clauses_found found.entry_found (bareTarget (tree.Target-F.Target::List ts))) (part_all in_target found.in_target _ (everyone PT ts))

parameter-made : (y : SuchParameter) → PP (roll-Parameter (bareParameter y))
parameter-made (tree.Plain x) = (part_is _ _ _ _ (ap (λ (z : ParameterUses). z.outer) (folds.fold-roll-Parameter Within Within Within ParameterUses Within ClauseUses Within argument_uses clause_uses expression_uses parameter_uses target_uses clauses_uses entry_uses (bareParameter (tree.Plain x)))) (para-roll-Parameter Found Found Found Found Found Found Found found.argument_found found.clause_found found.expression_found found.parameter_found found.target_found found.clauses_found found.entry_found (bareParameter (tree.Plain x))) (part_none _), part_is _ _ _ _ (ap (λ (z : ParameterUses). z.inner) (folds.fold-roll-Parameter Within Within Within ParameterUses Within ClauseUses Within argument_uses clause_uses expression_uses parameter_uses target_uses clauses_uses entry_uses (bareParameter (tree.Plain x)))) (para-roll-Parameter Found Found Found Found Found Found Found found.argument_found found.clause_found found.expression_found found.parameter_found found.target_found found.clauses_found found.entry_found (bareParameter (tree.Plain x))) (part_named x _))
parameter-made (tree.Default x e) = (part_is _ _ _ _ (ap (λ (z : ParameterUses). z.outer) (folds.fold-roll-Parameter Within Within Within ParameterUses Within ClauseUses Within argument_uses clause_uses expression_uses parameter_uses target_uses clauses_uses entry_uses (bareParameter (tree.Default x e)))) (para-roll-Parameter Found Found Found Found Found Found Found found.argument_found found.clause_found found.expression_found found.parameter_found found.target_found found.clauses_found found.entry_found (bareParameter (tree.Default x e))) (e.1), part_is _ _ _ _ (ap (λ (z : ParameterUses). z.inner) (folds.fold-roll-Parameter Within Within Within ParameterUses Within ClauseUses Within argument_uses clause_uses expression_uses parameter_uses target_uses clauses_uses entry_uses (bareParameter (tree.Default x e)))) (para-roll-Parameter Found Found Found Found Found Found Found found.argument_found found.clause_found found.expression_found found.parameter_found found.target_found found.clauses_found found.entry_found (bareParameter (tree.Default x e))) (part_named x _))
parameter-made (tree.Parameter-F.Parameter::Star x) = (part_is _ _ _ _ (ap (λ (z : ParameterUses). z.outer) (folds.fold-roll-Parameter Within Within Within ParameterUses Within ClauseUses Within argument_uses clause_uses expression_uses parameter_uses target_uses clauses_uses entry_uses (bareParameter (tree.Parameter-F.Parameter::Star x)))) (para-roll-Parameter Found Found Found Found Found Found Found found.argument_found found.clause_found found.expression_found found.parameter_found found.target_found found.clauses_found found.entry_found (bareParameter (tree.Parameter-F.Parameter::Star x))) (part_none _), part_is _ _ _ _ (ap (λ (z : ParameterUses). z.inner) (folds.fold-roll-Parameter Within Within Within ParameterUses Within ClauseUses Within argument_uses clause_uses expression_uses parameter_uses target_uses clauses_uses entry_uses (bareParameter (tree.Parameter-F.Parameter::Star x)))) (para-roll-Parameter Found Found Found Found Found Found Found found.argument_found found.clause_found found.expression_found found.parameter_found found.target_found found.clauses_found found.entry_found (bareParameter (tree.Parameter-F.Parameter::Star x))) (part_named x _))
parameter-made tree.BareStar = (part_is _ _ _ _ (ap (λ (z : ParameterUses). z.outer) (folds.fold-roll-Parameter Within Within Within ParameterUses Within ClauseUses Within argument_uses clause_uses expression_uses parameter_uses target_uses clauses_uses entry_uses (bareParameter tree.BareStar))) (para-roll-Parameter Found Found Found Found Found Found Found found.argument_found found.clause_found found.expression_found found.parameter_found found.target_found found.clauses_found found.entry_found (bareParameter tree.BareStar)) (part_none _), part_is _ _ _ _ (ap (λ (z : ParameterUses). z.inner) (folds.fold-roll-Parameter Within Within Within ParameterUses Within ClauseUses Within argument_uses clause_uses expression_uses parameter_uses target_uses clauses_uses entry_uses (bareParameter tree.BareStar))) (para-roll-Parameter Found Found Found Found Found Found Found found.argument_found found.clause_found found.expression_found found.parameter_found found.target_found found.clauses_found found.entry_found (bareParameter tree.BareStar)) (part_none _))
parameter-made (tree.Parameter-F.Parameter::StarStar x) = (part_is _ _ _ _ (ap (λ (z : ParameterUses). z.outer) (folds.fold-roll-Parameter Within Within Within ParameterUses Within ClauseUses Within argument_uses clause_uses expression_uses parameter_uses target_uses clauses_uses entry_uses (bareParameter (tree.Parameter-F.Parameter::StarStar x)))) (para-roll-Parameter Found Found Found Found Found Found Found found.argument_found found.clause_found found.expression_found found.parameter_found found.target_found found.clauses_found found.entry_found (bareParameter (tree.Parameter-F.Parameter::StarStar x))) (part_none _), part_is _ _ _ _ (ap (λ (z : ParameterUses). z.inner) (folds.fold-roll-Parameter Within Within Within ParameterUses Within ClauseUses Within argument_uses clause_uses expression_uses parameter_uses target_uses clauses_uses entry_uses (bareParameter (tree.Parameter-F.Parameter::StarStar x)))) (para-roll-Parameter Found Found Found Found Found Found Found found.argument_found found.clause_found found.expression_found found.parameter_found found.target_found found.clauses_found found.entry_found (bareParameter (tree.Parameter-F.Parameter::StarStar x))) (part_named x _))

entry-made : (y : SuchEntry) → PN (roll-Entry (bareEntry y))
entry-made y = part_is _ _ _ _ (folds.fold-roll-Entry Within Within Within ParameterUses Within ClauseUses Within argument_uses clause_uses expression_uses parameter_uses target_uses clauses_uses entry_uses (bareEntry y)) (para-roll-Entry Found Found Found Found Found Found Found found.argument_found found.clause_found found.expression_found found.parameter_found found.target_found found.clauses_found found.entry_found (bareEntry y)) (part_both (in_expression y.key.0) (in_expression y.value.0) (found.in_expression y.key.0) (found.in_expression y.value.0) y.key.1 y.value.1)

clauses-made : (y : SuchClauses) → PS (roll-Clauses (bareClauses y))
clauses-made y = (
  part_is _ _ _ _ (ap (λ (z : ClauseUses). z.first) (folds.fold-roll-Clauses Within Within Within ParameterUses Within ClauseUses Within argument_uses clause_uses expression_uses parameter_uses target_uses clauses_uses entry_uses (bareClauses y))) (para-roll-Clauses Found Found Found Found Found Found Found found.argument_found found.clause_found found.expression_found found.parameter_found found.target_found found.clauses_found found.entry_found (bareClauses y)) (part_right _ (found.in_target y.target.0) _ (part_left (in_expression y.iterable.0) (found.in_expression y.iterable.0) (found_all found.in_clause (map (λ z. z.0) y.more)) y.iterable.1)),
  part_is _ _ _ _ (ap (λ (z : ClauseUses). z.rest) (folds.fold-roll-Clauses Within Within Within ParameterUses Within ClauseUses Within argument_uses clause_uses expression_uses parameter_uses target_uses clauses_uses entry_uses (bareClauses y))) (para-roll-Clauses Found Found Found Found Found Found Found found.argument_found found.clause_found found.expression_found found.parameter_found found.target_found found.clauses_found found.entry_found (bareClauses y)) (part_also (in_target y.target.0) (each_use (map in_clause (map (λ z. z.0) y.more))) _ (part_left (in_target y.target.0) (found.in_target y.target.0) _ y.target.1) (part_right (each_use (map in_clause (map (λ z. z.0) y.more))) (found.in_target y.target.0) _ (part_right (each_use (map in_clause (map (λ z. z.0) y.more))) (found.in_expression y.iterable.0) (found_all found.in_clause (map (λ z. z.0) y.more)) (part_all in_clause found.in_clause _ (everyone PC y.more))))),
)

lambda_inner : (number : ℕ) (xs : List Parameter) (e : Expression) (c : List ℕ) (ws : List Use) → Sub (also (outer_of (map in_parameter xs)) (inside number (also (inner_of (map in_parameter xs)) (in_expression e))) c) ws → Inner xs (Answer e) number c ws
lambda_inner number xs e c ws s =
    let q = right (outer_of (map in_parameter xs) c) (inner_of (map in_parameter xs) ((1 + number) ∷ c) ++ in_expression e ((1 + number) ∷ c)) ws s in (
      by _ _ ws (ap (λ us. inner_of us ((1 + number) ∷ c)) (parameters_are xs)) (left (inner_of (map in_parameter xs) ((1 + number) ∷ c)) (in_expression e ((1 + number) ∷ c)) ws q),
      right (inner_of (map in_parameter xs) ((1 + number) ∷ c)) (in_expression e ((1 + number) ∷ c)) ws q,
    )

lambda_part : (number : ℕ) (xs : List Parameter) (e : Expression) → Every PP xs → PE e
    → Part (also (defined number) (also (outer_of (map in_parameter xs)) (inside number (also (inner_of (map in_parameter xs)) (in_expression e)))))
    (and (definition number (found.firsts (map (λ z. (z, found.in_parameter z)) xs)) (Answer e)) (and (found_all found.in_parameter xs) (found.in_expression e)))
lambda_part number xs e h k =
    let o = outer_of (map in_parameter xs) in
    let i = inner_of (map in_parameter xs) in
    let g = and (found_all found.in_parameter xs) (found.in_expression e) in
    subst (λ ps. Part (also (defined number) (also (outer_of (map in_parameter xs)) (inside number (also (inner_of (map in_parameter xs)) (in_expression e))))) (and (definition number ps (Answer e)) (and (found_all found.in_parameter xs) (found.in_expression e)))) (sym (firsts_are xs))
    (part_definition number xs (Answer e) (also o (inside number (also i (in_expression e)))) g
    (part_also o (inside number (also i (in_expression e))) g (part_left o (found_all found.in_parameter xs) (found.in_expression e) (part_outer xs h))
    (part_inside number (also i (in_expression e)) g (part_both i (in_expression e) (found_all found.in_parameter xs) (found.in_expression e) (part_inner xs h) k)))
    (λ c ws s. lambda_inner number xs e c ws s))

comprehension_part : (number : ℕ) (cs : Clauses) (u : Within) (f : Found) → PS cs → Part u f
    → Part (also (in_clauses cs).first (inside number (also (in_clauses cs).rest u))) (and (comprehension number cs) (and f (found.in_clauses cs)))
comprehension_part number cs u f h k =
    let g = and f (found.in_clauses cs) in
    part_right (also (in_clauses cs).first (inside number (also (in_clauses cs).rest u))) (comprehension number cs) g
    (part_also (in_clauses cs).first (inside number (also (in_clauses cs).rest u)) g (part_right (in_clauses cs).first f (found.in_clauses cs) h.0)
    (part_inside number (also (in_clauses cs).rest u) g (part_swap u (in_clauses cs).rest f (found.in_clauses cs) k h.1)))

expression-made : (y : SuchExpression) → PE (roll-Expression (bareExpression y))
expression-made (tree.Expression-F.Expression::Name x) = part_is _ _ _ _ (folds.fold-roll-Expression Within Within Within ParameterUses Within ClauseUses Within argument_uses clause_uses expression_uses parameter_uses target_uses clauses_uses entry_uses (bareExpression (tree.Expression-F.Expression::Name x))) (para-roll-Expression Found Found Found Found Found Found Found found.argument_found found.clause_found found.expression_found found.parameter_found found.target_found found.clauses_found found.entry_found (bareExpression (tree.Expression-F.Expression::Name x))) (part_named x _)
expression-made (tree.Int i) = part_is _ _ _ _ (folds.fold-roll-Expression Within Within Within ParameterUses Within ClauseUses Within argument_uses clause_uses expression_uses parameter_uses target_uses clauses_uses entry_uses (bareExpression (tree.Int i))) (para-roll-Expression Found Found Found Found Found Found Found found.argument_found found.clause_found found.expression_found found.parameter_found found.target_found found.clauses_found found.entry_found (bareExpression (tree.Int i))) (part_none _)
expression-made (tree.Text x) = part_is _ _ _ _ (folds.fold-roll-Expression Within Within Within ParameterUses Within ClauseUses Within argument_uses clause_uses expression_uses parameter_uses target_uses clauses_uses entry_uses (bareExpression (tree.Text x))) (para-roll-Expression Found Found Found Found Found Found Found found.argument_found found.clause_found found.expression_found found.parameter_found found.target_found found.clauses_found found.entry_found (bareExpression (tree.Text x))) (part_none _)
expression-made (tree.Expression-F.Expression::Tuple es) = part_is _ _ _ _ (folds.fold-roll-Expression Within Within Within ParameterUses Within ClauseUses Within argument_uses clause_uses expression_uses parameter_uses target_uses clauses_uses entry_uses (bareExpression (tree.Expression-F.Expression::Tuple es))) (para-roll-Expression Found Found Found Found Found Found Found found.argument_found found.clause_found found.expression_found found.parameter_found found.target_found found.clauses_found found.entry_found (bareExpression (tree.Expression-F.Expression::Tuple es))) (part_all in_expression found.in_expression _ (everyone PE es))
expression-made (tree.Expression-F.Expression::List es) = part_is _ _ _ _ (folds.fold-roll-Expression Within Within Within ParameterUses Within ClauseUses Within argument_uses clause_uses expression_uses parameter_uses target_uses clauses_uses entry_uses (bareExpression (tree.Expression-F.Expression::List es))) (para-roll-Expression Found Found Found Found Found Found Found found.argument_found found.clause_found found.expression_found found.parameter_found found.target_found found.clauses_found found.entry_found (bareExpression (tree.Expression-F.Expression::List es))) (part_all in_expression found.in_expression _ (everyone PE es))
expression-made (tree.Dict es) = part_is _ _ _ _ (folds.fold-roll-Expression Within Within Within ParameterUses Within ClauseUses Within argument_uses clause_uses expression_uses parameter_uses target_uses clauses_uses entry_uses (bareExpression (tree.Dict es))) (para-roll-Expression Found Found Found Found Found Found Found found.argument_found found.clause_found found.expression_found found.parameter_found found.target_found found.clauses_found found.entry_found (bareExpression (tree.Dict es))) (part_all in_entry found.in_entry _ (everyone PN es))
expression-made (tree.ListComprehension at e cs) = part_is _ _ _ _ (folds.fold-roll-Expression Within Within Within ParameterUses Within ClauseUses Within argument_uses clause_uses expression_uses parameter_uses target_uses clauses_uses entry_uses (bareExpression (tree.ListComprehension at e cs))) (para-roll-Expression Found Found Found Found Found Found Found found.argument_found found.clause_found found.expression_found found.parameter_found found.target_found found.clauses_found found.entry_found (bareExpression (tree.ListComprehension at e cs))) (comprehension_part at.token cs.0 (in_expression e.0) (found.in_expression e.0) cs.1 e.1)
expression-made (tree.DictComprehension at e cs) = part_is _ _ _ _ (folds.fold-roll-Expression Within Within Within ParameterUses Within ClauseUses Within argument_uses clause_uses expression_uses parameter_uses target_uses clauses_uses entry_uses (bareExpression (tree.DictComprehension at e cs))) (para-roll-Expression Found Found Found Found Found Found Found found.argument_found found.clause_found found.expression_found found.parameter_found found.target_found found.clauses_found found.entry_found (bareExpression (tree.DictComprehension at e cs))) (comprehension_part at.token cs.0 (in_entry e.0) (found.in_entry e.0) cs.1 e.1)
expression-made (tree.Unary op e) = part_is _ _ _ _ (folds.fold-roll-Expression Within Within Within ParameterUses Within ClauseUses Within argument_uses clause_uses expression_uses parameter_uses target_uses clauses_uses entry_uses (bareExpression (tree.Unary op e))) (para-roll-Expression Found Found Found Found Found Found Found found.argument_found found.clause_found found.expression_found found.parameter_found found.target_found found.clauses_found found.entry_found (bareExpression (tree.Unary op e))) (e.1)
expression-made (tree.Binary op a b) = part_is _ _ _ _ (folds.fold-roll-Expression Within Within Within ParameterUses Within ClauseUses Within argument_uses clause_uses expression_uses parameter_uses target_uses clauses_uses entry_uses (bareExpression (tree.Binary op a b))) (para-roll-Expression Found Found Found Found Found Found Found found.argument_found found.clause_found found.expression_found found.parameter_found found.target_found found.clauses_found found.entry_found (bareExpression (tree.Binary op a b))) (part_both (in_expression a.0) (in_expression b.0) (found.in_expression a.0) (found.in_expression b.0) a.1 b.1)
expression-made (tree.Compare op a b) = part_is _ _ _ _ (folds.fold-roll-Expression Within Within Within ParameterUses Within ClauseUses Within argument_uses clause_uses expression_uses parameter_uses target_uses clauses_uses entry_uses (bareExpression (tree.Compare op a b))) (para-roll-Expression Found Found Found Found Found Found Found found.argument_found found.clause_found found.expression_found found.parameter_found found.target_found found.clauses_found found.entry_found (bareExpression (tree.Compare op a b))) (part_both (in_expression a.0) (in_expression b.0) (found.in_expression a.0) (found.in_expression b.0) a.1 b.1)
expression-made (tree.And a b) = part_is _ _ _ _ (folds.fold-roll-Expression Within Within Within ParameterUses Within ClauseUses Within argument_uses clause_uses expression_uses parameter_uses target_uses clauses_uses entry_uses (bareExpression (tree.And a b))) (para-roll-Expression Found Found Found Found Found Found Found found.argument_found found.clause_found found.expression_found found.parameter_found found.target_found found.clauses_found found.entry_found (bareExpression (tree.And a b))) (part_both (in_expression a.0) (in_expression b.0) (found.in_expression a.0) (found.in_expression b.0) a.1 b.1)
expression-made (tree.Or a b) = part_is _ _ _ _ (folds.fold-roll-Expression Within Within Within ParameterUses Within ClauseUses Within argument_uses clause_uses expression_uses parameter_uses target_uses clauses_uses entry_uses (bareExpression (tree.Or a b))) (para-roll-Expression Found Found Found Found Found Found Found found.argument_found found.clause_found found.expression_found found.parameter_found found.target_found found.clauses_found found.entry_found (bareExpression (tree.Or a b))) (part_both (in_expression a.0) (in_expression b.0) (found.in_expression a.0) (found.in_expression b.0) a.1 b.1)
expression-made (tree.Expression-F.Expression::Index a b) = part_is _ _ _ _ (folds.fold-roll-Expression Within Within Within ParameterUses Within ClauseUses Within argument_uses clause_uses expression_uses parameter_uses target_uses clauses_uses entry_uses (bareExpression (tree.Expression-F.Expression::Index a b))) (para-roll-Expression Found Found Found Found Found Found Found found.argument_found found.clause_found found.expression_found found.parameter_found found.target_found found.clauses_found found.entry_found (bareExpression (tree.Expression-F.Expression::Index a b))) (part_both (in_expression a.0) (in_expression b.0) (found.in_expression a.0) (found.in_expression b.0) a.1 b.1)
expression-made (tree.Conditional x a b) = part_is _ _ _ _ (folds.fold-roll-Expression Within Within Within ParameterUses Within ClauseUses Within argument_uses clause_uses expression_uses parameter_uses target_uses clauses_uses entry_uses (bareExpression (tree.Conditional x a b))) (para-roll-Expression Found Found Found Found Found Found Found found.argument_found found.clause_found found.expression_found found.parameter_found found.target_found found.clauses_found found.entry_found (bareExpression (tree.Conditional x a b))) (part_both (in_expression x.0) _ (found.in_expression x.0) _ x.1 (part_both (in_expression a.0) (in_expression b.0) (found.in_expression a.0) (found.in_expression b.0) a.1 b.1))
expression-made (tree.Lambda at ps e) = part_is _ _ _ _ (folds.fold-roll-Expression Within Within Within ParameterUses Within ClauseUses Within argument_uses clause_uses expression_uses parameter_uses target_uses clauses_uses entry_uses (bareExpression (tree.Lambda at ps e))) (para-roll-Expression Found Found Found Found Found Found Found found.argument_found found.clause_found found.expression_found found.parameter_found found.target_found found.clauses_found found.entry_found (bareExpression (tree.Lambda at ps e))) (lambda_part at.token _ e.0 (everyone PP ps) e.1)
expression-made (tree.Call x es) = part_is _ _ _ _ (folds.fold-roll-Expression Within Within Within ParameterUses Within ClauseUses Within argument_uses clause_uses expression_uses parameter_uses target_uses clauses_uses entry_uses (bareExpression (tree.Call x es))) (para-roll-Expression Found Found Found Found Found Found Found found.argument_found found.clause_found found.expression_found found.parameter_found found.target_found found.clauses_found found.entry_found (bareExpression (tree.Call x es))) (part_both (in_expression x.0) _ (found.in_expression x.0) _ x.1 (part_all in_argument found.in_argument _ (everyone PA es)))
expression-made (tree.Attribute x a) = part_is _ _ _ _ (folds.fold-roll-Expression Within Within Within ParameterUses Within ClauseUses Within argument_uses clause_uses expression_uses parameter_uses target_uses clauses_uses entry_uses (bareExpression (tree.Attribute x a))) (para-roll-Expression Found Found Found Found Found Found Found found.argument_found found.clause_found found.expression_found found.parameter_found found.target_found found.clauses_found found.entry_found (bareExpression (tree.Attribute x a))) (x.1)
expression-made (tree.Slice x None None None) = part_is _ _ _ _ (folds.fold-roll-Expression Within Within Within ParameterUses Within ClauseUses Within argument_uses clause_uses expression_uses parameter_uses target_uses clauses_uses entry_uses (bareExpression (tree.Slice x None None None))) (para-roll-Expression Found Found Found Found Found Found Found found.argument_found found.clause_found found.expression_found found.parameter_found found.target_found found.clauses_found found.entry_found (bareExpression (tree.Slice x None None None))) (part_both (in_expression x.0) (also (λ c. []) (also (λ c. []) (λ c. []))) (found.in_expression x.0) (and nothing (and nothing nothing)) x.1 (part_both (λ c. []) (also (λ c. []) (λ c. [])) nothing (and nothing nothing) (part_none nothing) (part_both (λ c. []) (λ c. []) nothing nothing (part_none nothing) (part_none nothing))))
expression-made (tree.Slice x None None (Some d)) = part_is _ _ _ _ (folds.fold-roll-Expression Within Within Within ParameterUses Within ClauseUses Within argument_uses clause_uses expression_uses parameter_uses target_uses clauses_uses entry_uses (bareExpression (tree.Slice x None None (Some d)))) (para-roll-Expression Found Found Found Found Found Found Found found.argument_found found.clause_found found.expression_found found.parameter_found found.target_found found.clauses_found found.entry_found (bareExpression (tree.Slice x None None (Some d)))) (part_both (in_expression x.0) (also (λ c. []) (also (λ c. []) (in_expression d.0))) (found.in_expression x.0) (and nothing (and nothing (found.in_expression d.0))) x.1 (part_both (λ c. []) (also (λ c. []) (in_expression d.0)) nothing (and nothing (found.in_expression d.0)) (part_none nothing) (part_both (λ c. []) (in_expression d.0) nothing (found.in_expression d.0) (part_none nothing) d.1)))
expression-made (tree.Slice x None (Some b) None) = part_is _ _ _ _ (folds.fold-roll-Expression Within Within Within ParameterUses Within ClauseUses Within argument_uses clause_uses expression_uses parameter_uses target_uses clauses_uses entry_uses (bareExpression (tree.Slice x None (Some b) None))) (para-roll-Expression Found Found Found Found Found Found Found found.argument_found found.clause_found found.expression_found found.parameter_found found.target_found found.clauses_found found.entry_found (bareExpression (tree.Slice x None (Some b) None))) (part_both (in_expression x.0) (also (λ c. []) (also (in_expression b.0) (λ c. []))) (found.in_expression x.0) (and nothing (and (found.in_expression b.0) nothing)) x.1 (part_both (λ c. []) (also (in_expression b.0) (λ c. [])) nothing (and (found.in_expression b.0) nothing) (part_none nothing) (part_both (in_expression b.0) (λ c. []) (found.in_expression b.0) nothing b.1 (part_none nothing))))
expression-made (tree.Slice x None (Some b) (Some d)) = part_is _ _ _ _ (folds.fold-roll-Expression Within Within Within ParameterUses Within ClauseUses Within argument_uses clause_uses expression_uses parameter_uses target_uses clauses_uses entry_uses (bareExpression (tree.Slice x None (Some b) (Some d)))) (para-roll-Expression Found Found Found Found Found Found Found found.argument_found found.clause_found found.expression_found found.parameter_found found.target_found found.clauses_found found.entry_found (bareExpression (tree.Slice x None (Some b) (Some d)))) (part_both (in_expression x.0) (also (λ c. []) (also (in_expression b.0) (in_expression d.0))) (found.in_expression x.0) (and nothing (and (found.in_expression b.0) (found.in_expression d.0))) x.1 (part_both (λ c. []) (also (in_expression b.0) (in_expression d.0)) nothing (and (found.in_expression b.0) (found.in_expression d.0)) (part_none nothing) (part_both (in_expression b.0) (in_expression d.0) (found.in_expression b.0) (found.in_expression d.0) b.1 d.1)))
expression-made (tree.Slice x (Some a) None None) = part_is _ _ _ _ (folds.fold-roll-Expression Within Within Within ParameterUses Within ClauseUses Within argument_uses clause_uses expression_uses parameter_uses target_uses clauses_uses entry_uses (bareExpression (tree.Slice x (Some a) None None))) (para-roll-Expression Found Found Found Found Found Found Found found.argument_found found.clause_found found.expression_found found.parameter_found found.target_found found.clauses_found found.entry_found (bareExpression (tree.Slice x (Some a) None None))) (part_both (in_expression x.0) (also (in_expression a.0) (also (λ c. []) (λ c. []))) (found.in_expression x.0) (and (found.in_expression a.0) (and nothing nothing)) x.1 (part_both (in_expression a.0) (also (λ c. []) (λ c. [])) (found.in_expression a.0) (and nothing nothing) a.1 (part_both (λ c. []) (λ c. []) nothing nothing (part_none nothing) (part_none nothing))))
expression-made (tree.Slice x (Some a) None (Some d)) = part_is _ _ _ _ (folds.fold-roll-Expression Within Within Within ParameterUses Within ClauseUses Within argument_uses clause_uses expression_uses parameter_uses target_uses clauses_uses entry_uses (bareExpression (tree.Slice x (Some a) None (Some d)))) (para-roll-Expression Found Found Found Found Found Found Found found.argument_found found.clause_found found.expression_found found.parameter_found found.target_found found.clauses_found found.entry_found (bareExpression (tree.Slice x (Some a) None (Some d)))) (part_both (in_expression x.0) (also (in_expression a.0) (also (λ c. []) (in_expression d.0))) (found.in_expression x.0) (and (found.in_expression a.0) (and nothing (found.in_expression d.0))) x.1 (part_both (in_expression a.0) (also (λ c. []) (in_expression d.0)) (found.in_expression a.0) (and nothing (found.in_expression d.0)) a.1 (part_both (λ c. []) (in_expression d.0) nothing (found.in_expression d.0) (part_none nothing) d.1)))
expression-made (tree.Slice x (Some a) (Some b) None) = part_is _ _ _ _ (folds.fold-roll-Expression Within Within Within ParameterUses Within ClauseUses Within argument_uses clause_uses expression_uses parameter_uses target_uses clauses_uses entry_uses (bareExpression (tree.Slice x (Some a) (Some b) None))) (para-roll-Expression Found Found Found Found Found Found Found found.argument_found found.clause_found found.expression_found found.parameter_found found.target_found found.clauses_found found.entry_found (bareExpression (tree.Slice x (Some a) (Some b) None))) (part_both (in_expression x.0) (also (in_expression a.0) (also (in_expression b.0) (λ c. []))) (found.in_expression x.0) (and (found.in_expression a.0) (and (found.in_expression b.0) nothing)) x.1 (part_both (in_expression a.0) (also (in_expression b.0) (λ c. [])) (found.in_expression a.0) (and (found.in_expression b.0) nothing) a.1 (part_both (in_expression b.0) (λ c. []) (found.in_expression b.0) nothing b.1 (part_none nothing))))
expression-made (tree.Slice x (Some a) (Some b) (Some d)) = part_is _ _ _ _ (folds.fold-roll-Expression Within Within Within ParameterUses Within ClauseUses Within argument_uses clause_uses expression_uses parameter_uses target_uses clauses_uses entry_uses (bareExpression (tree.Slice x (Some a) (Some b) (Some d)))) (para-roll-Expression Found Found Found Found Found Found Found found.argument_found found.clause_found found.expression_found found.parameter_found found.target_found found.clauses_found found.entry_found (bareExpression (tree.Slice x (Some a) (Some b) (Some d)))) (part_both (in_expression x.0) (also (in_expression a.0) (also (in_expression b.0) (in_expression d.0))) (found.in_expression x.0) (and (found.in_expression a.0) (and (found.in_expression b.0) (found.in_expression d.0))) x.1 (part_both (in_expression a.0) (also (in_expression b.0) (in_expression d.0)) (found.in_expression a.0) (and (found.in_expression b.0) (found.in_expression d.0)) a.1 (part_both (in_expression b.0) (in_expression d.0) (found.in_expression b.0) (found.in_expression d.0) b.1 d.1)))

pub expression-part : (x : Expression) → PE x
expression-part x = ind-Expression PA PC PE PP PT PS PN (λ x' y p. subst (λ z. PA (roll-Argument z)) p (argument-made y)) (λ x' y p. subst (λ z. PC (roll-Clause z)) p (clause-made y)) (λ x' y p. subst (λ z. PE (roll-Expression z)) p (expression-made y)) (λ x' y p. subst (λ z. PP (roll-Parameter z)) p (parameter-made y)) (λ x' y p. subst (λ z. PT (roll-Target z)) p (target-made y)) (λ x' y p. subst (λ z. PS (roll-Clauses z)) p (clauses-made y)) (λ x' y p. subst (λ z. PN (roll-Entry z)) p (entry-made y)) x

pub target-part : (x : Target) → PT x
target-part x = ind-Target PA PC PE PP PT PS PN (λ x' y p. subst (λ z. PA (roll-Argument z)) p (argument-made y)) (λ x' y p. subst (λ z. PC (roll-Clause z)) p (clause-made y)) (λ x' y p. subst (λ z. PE (roll-Expression z)) p (expression-made y)) (λ x' y p. subst (λ z. PP (roll-Parameter z)) p (parameter-made y)) (λ x' y p. subst (λ z. PT (roll-Target z)) p (target-made y)) (λ x' y p. subst (λ z. PS (roll-Clauses z)) p (clauses-made y)) (λ x' y p. subst (λ z. PN (roll-Entry z)) p (entry-made y)) x

pub parameter-part : (x : Parameter) → PP x
parameter-part x = ind-Parameter PA PC PE PP PT PS PN (λ x' y p. subst (λ z. PA (roll-Argument z)) p (argument-made y)) (λ x' y p. subst (λ z. PC (roll-Clause z)) p (clause-made y)) (λ x' y p. subst (λ z. PE (roll-Expression z)) p (expression-made y)) (λ x' y p. subst (λ z. PP (roll-Parameter z)) p (parameter-made y)) (λ x' y p. subst (λ z. PT (roll-Target z)) p (target-made y)) (λ x' y p. subst (λ z. PS (roll-Clauses z)) p (clauses-made y)) (λ x' y p. subst (λ z. PN (roll-Entry z)) p (entry-made y)) x
