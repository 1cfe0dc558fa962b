-- Each part of the grammar of expressions reads values in order, if the parts that hold themselves do.
use Rattle.std.proofs.Common.{◌≡◌, ℕ, zero, suc, Bool, true, false, List, [], ◌∷◌, Option, Some, None, refl, subst}
use Rattle.std.specs.Prelude.{if◌then◌else◌}
use Rattle.star_syntax.specs.declared.leaf.TokenValue.{TokenValue}
use Rattle.star_syntax.specs.declared.level.Level.{Level}
use Rattle.star_syntax.specs.declared.level.Level.TheVariants as levels
use Rattle.star_syntax.specs.declared.level.Suffix.{Suffix}
use Rattle.star_syntax.specs.declared.level.Suffix.TheVariants as suffixes
use Rattle.star_tree.specs.declared.tree.Position.{Position}
use Rattle.star_tree.specs.declared.tree.Name.{Name}
use Rattle.star_tree.specs.declared.tree.UnaryOperator.TheVariants as unaries
use Rattle.star_tree.specs.declared.tree.Comparator.{Comparator}
use Rattle.star_tree.specs.declared.tree.Clauses.{Clauses}
use Rattle.star_tree.specs.declared.tree.Entry.{Entry}
use Rattle.star_tree.specs.declared.tree.Expression.{Expression}
use Rattle.star_syntax.specs.Sorts.{Val, both, maybe, list}
use Rattle.star_syntax.specs.Sorts as sorts
use Rattle.star_syntax.specs.Grammar.{level, nonterminal, Readers}
use Rattle.star_syntax.specs.InOrder.{parameter_in_order}
use Rattle.star_syntax.specs.Keeps.{keep, arguments_in_order, parameters_in_order}
use Rattle.star_syntax.specs.Expressions.{StopAndStride, atom_of, tuple_unless_one, parentheses_of, list_of, dict_of, comparison_of, conditional_of, subscript_of, with_suffix, parameter_of, star_of, next_test, list_of_tests, tests, next_primary, list_of_primaries, primaries, targets, for_clause, if_clause, next_clause, further_clauses, all_clauses, inside, parentheses, further_tests, after_element, elements, list_display, entry, next_entry, further_entries, after_entry, entries, dict_display, atom, operand, named, argument, next_argument, list_of_arguments, ordered_arguments, optional_arguments, default, named_parameter, star, star_star, parameter, next_parameter, list_of_parameters, ordered_parameters, optional_parameters, parameters_in_parentheses, lambda_parameters, lambda, attribute, call, stride, stop_and_stride, after_start, from_test, in_brackets, subscript, suffix, primary, sign_operand, unary, climb, bit_or, compared, comparison, not_operand, negation, next_negation, conjunction, next_conjunction, disjunction, choice, conditional, any_test}
use Rattle.star_syntax.proofs.Kept.{Holds, OfExpression, OfTarget, Given, Taken, of-Name, of-Int, of-Text, of-Tuple, of-List, of-Dict, of-ListComprehension, of-DictComprehension, of-Unary, of-Binary, of-Compare, of-And, of-Or, of-Conditional, of-Lambda, of-Call, of-Attribute, of-Index, of-Slice, of-Positional, of-Named, of-StarArgument, of-StarStarArgument, of-Plain, of-Default, of-StarParameter, of-BareStar, of-StarStarParameter, of-For, of-If, of-clauses, of-entry}
use Rattle.star_syntax.proofs.Makes.{Makes, Each, Maybe, by-atom, nothing-found, same_some, makes-any, makes-one, makes-seq, makes-alt, makes-act, makes-when, makes-fold, makes-after, makes-before, makes-opt, makes-list, makes-rep}
use Rattle.star_syntax.proofs.Orders.{argument_in_order, clause_in_order, clauses_in_order, entry_in_order}
use Rattle.star_syntax.proofs.TargetsInOrder.{target-kept}

-- ---- the values of productions

abbrev pub OfSuffix : Suffix → Type 0
OfSuffix (suffixes.Attribute name) = Unit {0}
OfSuffix (suffixes.Call given) = Given given
OfSuffix (suffixes.Index index) = OfExpression index
OfSuffix (suffixes.Slice start stop stride) = Maybe OfExpression start × (Maybe OfExpression stop × Maybe OfExpression stride)

abbrev Two : Expression × Expression → Type 0
Two p = OfExpression p.0 × OfExpression p.1

abbrev OfStopAndStride : StopAndStride → Type 0
OfStopAndStride c = Maybe OfExpression c.0 × Maybe OfExpression c.1

-- clauses, or further parts
abbrev After : {A : Type 0} → (A → Type 0) → Option Clauses × List A → Type 0
After P p = Maybe (Holds clauses_in_order) p.0 × Each P p.1

abbrev AfterStart : Option StopAndStride × List Expression → Type 0
AfterStart p = Maybe OfStopAndStride p.0 × Each OfExpression p.1

a-tuple-unless-one : (xs : List Expression) → Each OfExpression xs → OfExpression (tuple_unless_one xs)
a-tuple-unless-one [] k = of-Tuple [] tt
a-tuple-unless-one (x ∷ []) k = k.0
a-tuple-unless-one (x ∷ y ∷ more) k = of-Tuple (x ∷ y ∷ more) k

in-parentheses : (p : Option (List Expression × Option (Unit {0}))) → Maybe (λ q. Each OfExpression q.0 × Unit {0}) p → OfExpression (parentheses_of p)
in-parentheses None k = of-Tuple [] tt
in-parentheses (Some (xs, None)) k = a-tuple-unless-one xs k.0
in-parentheses (Some (xs, Some comma)) k = of-Tuple xs k.0

a-list : (p : Position × Option (Expression × (Option Clauses × List Expression))) → Unit {0} × Maybe (λ q. OfExpression q.0 × After OfExpression q.1) p.1 → OfExpression (list_of p)
a-list (at, None) k = of-List [] tt
a-list (at, Some (x, (None, more))) k = of-List (x ∷ more) (k.1.0, k.1.1.1)
a-list (at, Some (x, (Some c, more))) k = of-ListComprehension at x c k.1.0 k.1.1.0

a-dict : (p : Position × Option (Entry × (Option Clauses × List Entry))) → Unit {0} × Maybe (λ q. Holds entry_in_order q.0 × After (Holds entry_in_order) q.1) p.1 → OfExpression (dict_of p)
a-dict (at, None) k = of-Dict [] tt
a-dict (at, Some (x, (None, more))) k = of-Dict (x ∷ more) (k.1.0, k.1.1.1)
a-dict (at, Some (x, (Some c, more))) k = of-DictComprehension at x c k.1.0 k.1.1.0

an-atom : (at : Position) (w : TokenValue) (x : Expression) → atom_of at w ≡ Some x → OfExpression x
an-atom at = by-atom (λ w x. OfExpression x) at (λ text. of-Name _) of-Int of-Text

a-comparison : (p : Expression × Option (Comparator × Expression)) → OfExpression p.0 × Maybe (λ q. Unit {0} × OfExpression q.1) p.1 → OfExpression (comparison_of p)
a-comparison (left, None) k = k.0
a-comparison (left, Some q) k = of-Compare q.0 left q.1 k.0 k.1.1

a-conditional : (p : Expression × Option (Expression × Expression)) → OfExpression p.0 × Maybe Two p.1 → OfExpression (conditional_of p)
a-conditional (chosen, None) k = k.0
a-conditional (chosen, Some q) k = of-Conditional q.0 chosen q.1 k.1.0 k.0 k.1.1

a-subscript : (p : Expression × (Option StopAndStride × List Expression)) → OfExpression p.0 × AfterStart p.1 → OfSuffix (subscript_of p)
a-subscript (x, (None, more)) k = a-tuple-unless-one (x ∷ more) (k.0, k.1.1)
a-subscript (x, (Some c, more)) k = (k.0, (k.1.0.0, k.1.0.1))

a-suffix : (x : Expression) (s : Suffix) → OfExpression x → OfSuffix s → OfExpression (with_suffix x s)
a-suffix x (suffixes.Attribute name) k l = of-Attribute x name k
a-suffix x (suffixes.Call given) k l = of-Call x given k l
a-suffix x (suffixes.Index index) k l = of-Index x index k l
a-suffix x (suffixes.Slice start stop stride) k l = of-Slice x start stop stride k l.0 l.1.0 l.1.1

a-parameter : (p : Name × Option Expression) → Unit {0} × Maybe OfExpression p.1 → Holds parameter_in_order (parameter_of p)
a-parameter (name, None) k = of-Plain name
a-parameter (name, Some x) k = of-Default name x k.1

a-star : (o : Option Name) → Holds parameter_in_order (star_of o)
a-star None = of-BareStar
a-star (Some name) = of-StarParameter name

-- values that pass a test
passed : {A : Type 0} (test : A → Bool) (x y : A) → keep test x ≡ Some y → (x ≡ y) × (test x ≡ true)
passed {A = A} test x y e = go (test x) refl e
  where
    go : (b : Bool) → test x ≡ b → (if b then Some x else None) ≡ Some y → (x ≡ y) × (test x ≡ true)
    go true is e = (same_some x y e, is)
    go false is e = absurd (nothing-found y e)

ordered : {A : Type 0} (test : List A → Bool) (P : A → Type 0) (xs ys : List A) → Each P xs → keep test xs ≡ Some ys → (test ys ≡ true) × Each P ys
ordered test P xs ys k e = let p = passed test xs ys e in subst (λ zs. (test zs ≡ true) × Each P zs) p.0 (p.1, k)

-- ---- productions

module _ (k : Readers) (m : (l : Level) → Makes k sorts.expression (nonterminal (level l)) OfExpression) where
  next-test : Makes k _ next_test OfExpression
  unfolding next_test
  next-test = makes-after k (m levels.Test)

  list-of-tests : Makes k _ list_of_tests (Each OfExpression)
  unfolding list_of_tests
  list-of-tests = makes-list k (m levels.Test) next-test

  pub tests' : Makes k _ tests OfExpression
  unfolding tests
  tests' = makes-act k a-tuple-unless-one list-of-tests

  primaries' : Makes k _ primaries OfExpression
  unfolding primaries list_of_primaries next_primary
  primaries' = makes-act k a-tuple-unless-one (makes-list k (m levels.Primary) (makes-after k (m levels.Primary)))

  pub targets' : Makes k _ targets OfTarget
  unfolding targets
  targets' = makes-when k target-kept primaries'

  for-clause : Makes k _ for_clause (λ p. OfTarget p.0 × OfExpression p.1)
  unfolding for_clause
  for-clause = makes-after k (makes-seq k targets' (makes-after k (m levels.Or)))

  next-clause : Makes k _ next_clause (Holds clause_in_order)
  unfolding next_clause if_clause
  next-clause = makes-alt k (makes-act k (λ p q. of-For p.0 p.1 q.0 q.1) for-clause) (makes-act k of-If (makes-after k (m levels.Or)))

  all-clauses : Makes k _ all_clauses (Holds clauses_in_order)
  unfolding all_clauses further_clauses
  all-clauses = makes-act k (λ p q. of-clauses p.0.0 p.0.1 p.1 q.0.0 q.0.1 q.1) (makes-seq k for-clause (makes-rep k next-clause))

  parentheses' : Makes k _ parentheses OfExpression
  unfolding parentheses inside
  parentheses' = makes-after k (makes-act k in-parentheses (makes-before k (makes-opt k (makes-seq k list-of-tests (makes-any k)))))

  further-tests : Makes k _ further_tests (Each OfExpression)
  unfolding further_tests
  further-tests = makes-rep k next-test

  list-display : Makes k _ list_display OfExpression
  unfolding list_display elements after_element
  list-display = makes-act k a-list (makes-seq k (makes-any k) (makes-before k (makes-opt k (makes-seq k (m levels.Test)
      (makes-alt k (makes-act k (λ c q. (q, tt)) all-clauses) (makes-act k (λ xs q. (tt, q)) (makes-before k further-tests)))))))

  entry' : Makes k _ entry (Holds entry_in_order)
  unfolding entry
  entry' = makes-act k (λ p q. of-entry p.0 p.1 q.0 q.1) (makes-seq k (m levels.Test) (makes-after k (m levels.Test)))

  dict-display : Makes k _ dict_display OfExpression
  unfolding dict_display entries after_entry further_entries next_entry
  dict-display = makes-act k a-dict (makes-seq k (makes-any k) (makes-before k (makes-opt k (makes-seq k entry'
      (makes-alt k (makes-act k (λ c q. (q, tt)) all-clauses) (makes-act k (λ xs q. (tt, q)) (makes-before k (makes-rep k (makes-after k entry')))))))))

  operand' : Makes k _ operand OfExpression
  unfolding operand atom
  operand' = makes-alt k (makes-one k (λ t x e. an-atom t.position t.word x e)) (makes-alt k parentheses' (makes-alt k list-display dict-display))

  argument' : Makes k _ argument (Holds argument_in_order)
  unfolding argument named
  argument' = makes-alt k (makes-act k (λ p q. of-Named p.0 p.1 q.1) (makes-seq k (makes-any k) (m levels.Test)))
      (makes-alt k (makes-act k of-StarArgument (makes-after k (m levels.Test))) (makes-alt k (makes-act k of-StarStarArgument (makes-after k (m levels.Test))) (makes-act k of-Positional (m levels.Test))))

  given' : Makes k _ optional_arguments Given
  unfolding optional_arguments ordered_arguments list_of_arguments next_argument
  given' = makes-alt k (makes-before k (makes-when k (ordered arguments_in_order (Holds argument_in_order)) (makes-list k argument' (makes-after k argument')))) (makes-act k (λ u q. (refl, tt)) (makes-any k))

  parameter' : Makes k _ parameter (Holds parameter_in_order)
  unfolding parameter named_parameter default star star_star
  parameter' = makes-alt k (makes-act k a-parameter (makes-seq k (makes-any k) (makes-opt k (makes-after k (m levels.Test)))))
      (makes-alt k (makes-act k (λ o q. a-star o) (makes-any k)) (makes-act k (λ name q. of-StarStarParameter name) (makes-any k)))

  ordered-parameters : Makes k _ ordered_parameters Taken
  unfolding ordered_parameters list_of_parameters next_parameter
  ordered-parameters = makes-when k (ordered parameters_in_order (Holds parameter_in_order)) (makes-list k parameter' (makes-after k parameter'))

  pub parameters-in-parentheses : Makes k _ parameters_in_parentheses Taken
  unfolding parameters_in_parentheses optional_parameters
  parameters-in-parentheses = makes-after k (makes-before k (makes-alt k (makes-before k ordered-parameters) (makes-act k (λ u q. (refl, tt)) (makes-any k))))

  lambda' : Makes k _ lambda OfExpression
  unfolding lambda lambda_parameters
  lambda' = makes-act k (λ p q. of-Lambda p.0 p.1.0 p.1.1 q.1.0 q.1.1) (makes-seq k (makes-any k) (makes-seq k (makes-alt k ordered-parameters (makes-act k (λ u q. (refl, tt)) (makes-any k))) (makes-after k (m levels.Test))))

  stop-and-stride : Makes k _ stop_and_stride OfStopAndStride
  unfolding stop_and_stride stride
  stop-and-stride = makes-after k (makes-seq k (makes-opt k (m levels.Test)) (makes-alt k (makes-after k (makes-opt k (m levels.Test))) (makes-act k (λ u q. tt) (makes-any k))))

  subscript' : Makes k _ subscript OfSuffix
  unfolding subscript in_brackets from_test after_start
  subscript' = makes-after k (makes-before k (makes-alt k
      (makes-act k a-subscript (makes-seq k (m levels.Test) (makes-alt k (makes-act k (λ c q. (q, tt)) stop-and-stride) (makes-act k (λ xs q. (tt, q)) further-tests))))
      (makes-act k (λ c q. (tt, (q.0, q.1))) stop-and-stride)))

  suffix' : Makes k _ suffix OfSuffix
  unfolding suffix attribute call
  suffix' = makes-alt k (makes-act k (λ name q. tt) (makes-any k)) (makes-alt k (makes-act k (λ xs q. q) (makes-after k (makes-before k given'))) subscript')

  pub primary' : Makes k _ primary OfExpression
  unfolding primary
  primary' = makes-fold k a-suffix operand' suffix'

  pub unary' : Makes k _ unary OfExpression
  unfolding unary sign_operand
  unary' = makes-alt k (makes-act k (λ p q. of-Unary p.0 p.1 q.1) (makes-seq k (makes-any k) (m levels.Unary))) primary'

  pub climb' : (n : ℕ) → Makes k _ (climb n) OfExpression
  unfolding climb
  climb' zero = unary'
  climb' (suc n) = makes-fold k (λ x p i j. of-Binary p.0 x p.1 i j.1) (climb' n) (makes-seq k (makes-any k) (climb' n))

  comparison' : Makes k _ comparison OfExpression
  unfolding comparison compared bit_or
  comparison' = makes-act k a-comparison (makes-seq k (climb' 6) (makes-opt k (makes-seq k (makes-any k) (climb' 6))))

  pub negation' : Makes k _ negation OfExpression
  unfolding negation not_operand
  negation' = makes-alt k (makes-act k (of-Unary unaries.Not) (makes-after k (m levels.Negation))) comparison'

  conjunction' : Makes k _ conjunction OfExpression
  unfolding conjunction next_negation
  conjunction' = makes-fold k of-And negation' (makes-after k negation')

  pub disjunction' : Makes k _ disjunction OfExpression
  unfolding disjunction next_conjunction
  disjunction' = makes-fold k of-Or conjunction' (makes-after k conjunction')

  pub test' : Makes k _ any_test OfExpression
  unfolding any_test conditional choice
  test' = makes-alt k lambda' (makes-act k a-conditional (makes-seq k disjunction' (makes-opt k (makes-after k (makes-seq k disjunction' (makes-after k (m levels.Test)))))))
