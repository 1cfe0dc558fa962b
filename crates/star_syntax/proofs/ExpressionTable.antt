-- Expressions come back to themselves only after a leaf or at a lower rank, and their rounds take leaves.
use Rattle.std.proofs.Common.{◌≡◌, ℕ, zero, suc, ◌≤◌, true, refl, arith}
use Rattle.star_syntax.specs.declared.level.Level.{Level}
use Rattle.star_syntax.specs.declared.level.Level.TheVariants as levels
use Rattle.star_syntax.specs.Grammar.{level}
use Rattle.star_syntax.proofs.Soundness.{cost, safe}
use Rattle.star_syntax.specs.Expressions.{next_test, list_of_tests, next_primary, list_of_primaries, primaries, targets, for_clause, if_clause, next_clause, further_clauses, all_clauses, inside, parentheses, further_tests, after_element, elements, list_display, entry, next_entry, further_entries, after_entry, entries, dict_display, atom, operand, named, argument, next_argument, list_of_arguments, ordered_arguments, optional_arguments, default, named_parameter, star, star_star, parameter, next_parameter, list_of_parameters, ordered_parameters, lambda_parameters, lambda, attribute, call, stride, stop_and_stride, after_start, from_test, in_brackets, subscript, suffix, primary, sign_operand, unary, climb, bit_or, comparator, compared, comparison, not_operand, negation, next_negation, conjunction, next_conjunction, disjunction, choice, conditional, any_test}
use Rattle.star_syntax.specs.Language.{rule}
use Rattle.star_syntax.proofs.Ranks.{rank}

clauses-cost : cost all_clauses ≡ 4
unfolding all_clauses for_clause further_clauses targets primaries list_of_primaries
clauses-cost = refl

clauses-safe : safe rank 2 2 all_clauses ≡ true
unfolding all_clauses for_clause further_clauses next_clause if_clause targets primaries list_of_primaries next_primary
clauses-safe = refl

list-cost : cost list_display ≡ 2
unfolding list_display elements after_element further_tests
list-cost = simp clauses-cost

list-safe : (m : ℕ) → safe rank 2 m list_display ≡ true
unfolding list_display elements after_element further_tests next_test
list-safe m = simp (clauses-safe, clauses-cost)

dict-cost : cost dict_display ≡ 2
unfolding dict_display entries after_entry entry further_entries
dict-cost = simp clauses-cost

dict-safe : (m : ℕ) → safe rank 2 m dict_display ≡ true
unfolding dict_display entries after_entry entry further_entries next_entry
dict-safe m = simp (clauses-safe, clauses-cost)

parentheses-cost : cost parentheses ≡ 2
unfolding parentheses inside list_of_tests
parentheses-cost = refl

parentheses-safe : (m : ℕ) → safe rank 2 m parentheses ≡ true
unfolding parentheses inside list_of_tests next_test
parentheses-safe m = refl

operand-cost : cost operand ≡ 1
unfolding operand atom
operand-cost = simp (parentheses-cost, list-cost, dict-cost)

operand-safe : (m : ℕ) → safe rank 2 m operand ≡ true
unfolding operand atom
operand-safe m = simp (parentheses-safe, list-safe, dict-safe)

call-cost : cost call ≡ 2
unfolding call optional_arguments ordered_arguments list_of_arguments argument named
call-cost = refl

call-safe : (m : ℕ) → safe rank 2 m call ≡ true
unfolding call optional_arguments ordered_arguments list_of_arguments argument named next_argument
call-safe m = refl

subscript-cost : cost subscript ≡ 3
unfolding subscript in_brackets from_test after_start stop_and_stride stride further_tests
subscript-cost = refl

subscript-safe : (m : ℕ) → safe rank 2 m subscript ≡ true
unfolding subscript in_brackets from_test after_start stop_and_stride stride further_tests next_test
subscript-safe m = refl

suffix-cost : cost suffix ≡ 2
unfolding suffix attribute
suffix-cost = simp (call-cost, subscript-cost)

suffix-safe : (m : ℕ) → safe rank 2 m suffix ≡ true
unfolding suffix attribute
suffix-safe m = simp (call-safe, subscript-safe)

primary-cost : cost primary ≡ 1
unfolding primary
primary-cost = operand-cost

primary-safe : (m : ℕ) → safe rank 2 m primary ≡ true
unfolding primary
primary-safe m = simp (operand-safe, operand-cost, suffix-safe, suffix-cost)

unary-cost : cost unary ≡ 1
unfolding unary sign_operand
unary-cost = simp primary-cost

unary-safe : (m : ℕ) → safe rank 2 m unary ≡ true
unfolding unary sign_operand
unary-safe m = primary-safe m

climb-cost : (n : ℕ) → cost (climb n) ≡ 1
unfolding climb
climb-cost zero = unary-cost
climb-cost (suc n) = climb-cost n

climb-safe : (n m : ℕ) → safe rank 2 m (climb n) ≡ true
unfolding climb
climb-safe zero m = unary-safe m
climb-safe (suc n) m = simp (climb-safe n, climb-cost n)

negation-cost : cost negation ≡ 1
unfolding negation not_operand comparison compared comparator bit_or
negation-cost = simp (climb-cost 6)

negation-safe : (m : ℕ) → safe rank 2 m negation ≡ true
unfolding negation not_operand comparison compared comparator bit_or
negation-safe m = simp (climb-safe 6, climb-cost 6)

disjunction-cost : cost disjunction ≡ 1
unfolding disjunction conjunction
disjunction-cost = negation-cost

disjunction-safe : (m : ℕ) → safe rank 2 m disjunction ≡ true
unfolding disjunction next_conjunction conjunction next_negation
disjunction-safe m = simp (negation-safe, negation-cost)

lambda-safe : (m : ℕ) → safe rank 2 m lambda ≡ true
unfolding lambda lambda_parameters ordered_parameters list_of_parameters next_parameter parameter named_parameter star star_star default
lambda-safe m = refl

lambda-cost : cost lambda ≡ 3
unfolding lambda lambda_parameters ordered_parameters list_of_parameters parameter named_parameter star star_star default
lambda-cost = refl

test-cost : cost any_test ≡ 1
unfolding any_test conditional choice
test-cost = simp (lambda-cost, disjunction-cost)

test-safe : (m : ℕ) → safe rank 2 m any_test ≡ true
unfolding any_test conditional choice
test-safe m = simp (lambda-safe, disjunction-safe, disjunction-cost)

pub level-costs : (l : Level) → 1 ≤ cost (rule (level l))
level-costs levels.Test = omega (arith, test-cost)
level-costs levels.Or = omega (arith, disjunction-cost)
level-costs levels.Negation = omega (arith, negation-cost)
level-costs levels.Unary = omega (arith, unary-cost)
level-costs levels.Primary = omega (arith, primary-cost)

pub level-safe : (l : Level) → safe rank 2 0 (rule (level l)) ≡ true
level-safe levels.Test = test-safe 0
level-safe levels.Or = disjunction-safe 0
level-safe levels.Negation = negation-safe 0
level-safe levels.Unary = unary-safe 0
level-safe levels.Primary = primary-safe 0
