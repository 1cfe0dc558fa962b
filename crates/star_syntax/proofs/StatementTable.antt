-- Statements come back to themselves only after a leaf or at a lower rank, and their rounds take leaves.
use Rattle.std.proofs.Common.{◌≡◌, ℕ, ◌≤◌, true, refl, arith}
use Rattle.star_syntax.proofs.Soundness.{cost, safe}
use Rattle.star_syntax.specs.Expressions.{tests, list_of_tests, next_test, targets, list_of_primaries, primaries, next_primary, parameters_in_parentheses, optional_parameters, ordered_parameters, list_of_parameters, next_parameter, parameter, named_parameter, star, star_star, default}
use Rattle.star_syntax.specs.Statements.{returned, local, loaded, next_loaded, all_loaded, loads, load, assigning, right_side, expression_or_assignment, keyword_form, small_form, small, next_small, small_statements, simple, body, block, suite, colon_suite, arm, next_arm, first_arm, arms, otherwise, condition, iteration, definition, compound_form, compound, one_statement, statements, file}
use Rattle.star_syntax.proofs.Ranks.{rank}

small-cost : cost small ≡ 1
unfolding small small_form returned keyword_form load loads all_loaded next_loaded loaded local expression_or_assignment right_side assigning tests list_of_tests
small-cost = refl

-- at the front of a statement, and after a leaf
first-safe : safe rank 2 1 small ≡ true
unfolding small small_form returned keyword_form load loads all_loaded next_loaded loaded local expression_or_assignment right_side assigning tests list_of_tests next_test
first-safe = refl

small-safe : safe rank 2 2 small ≡ true
unfolding small small_form returned keyword_form load loads all_loaded next_loaded loaded local expression_or_assignment right_side assigning tests list_of_tests next_test
small-safe = refl

simple-cost : cost simple ≡ 2
unfolding simple small_statements
simple-cost = simp small-cost

line-safe : safe rank 2 1 simple ≡ true
unfolding simple small_statements next_small
line-safe = simp (first-safe, small-safe, small-cost)

simple-safe : safe rank 2 2 simple ≡ true
unfolding simple small_statements next_small
simple-safe = simp (small-safe, small-cost)

suite-cost : cost suite ≡ 2
unfolding suite block body
suite-cost = simp simple-cost

suite-safe : safe rank 2 2 suite ≡ true
unfolding suite block body
suite-safe = simp simple-safe

arm-cost : cost arm ≡ 4
unfolding arm colon_suite
arm-cost = simp suite-cost

arm-safe : safe rank 2 2 arm ≡ true
unfolding arm colon_suite
arm-safe = suite-safe

condition-safe : (m : ℕ) → safe rank 2 m condition ≡ true
unfolding condition arms first_arm next_arm otherwise colon_suite
condition-safe m = simp (arm-safe, arm-cost, suite-safe)

iteration-safe : (m : ℕ) → safe rank 2 m iteration ≡ true
unfolding iteration colon_suite targets primaries list_of_primaries next_primary tests list_of_tests next_test
iteration-safe m = suite-safe

definition-safe : (m : ℕ) → safe rank 2 m definition ≡ true
unfolding definition colon_suite parameters_in_parentheses optional_parameters ordered_parameters list_of_parameters next_parameter parameter named_parameter star star_star default
definition-safe m = suite-safe

condition-cost : cost condition ≡ 5
unfolding condition arms first_arm otherwise colon_suite
condition-cost = simp (arm-cost, suite-cost)

iteration-cost : cost iteration ≡ 7
unfolding iteration colon_suite targets primaries list_of_primaries tests list_of_tests
iteration-cost = simp suite-cost

definition-cost : cost definition ≡ 7
unfolding definition colon_suite parameters_in_parentheses optional_parameters ordered_parameters list_of_parameters parameter named_parameter star star_star default
definition-cost = simp suite-cost

compound-cost : cost compound ≡ 5
unfolding compound compound_form
compound-cost = simp (definition-cost, condition-cost, iteration-cost)

compound-safe : (m : ℕ) → safe rank 2 m compound ≡ true
unfolding compound compound_form
compound-safe m = simp (definition-safe, condition-safe, iteration-safe, definition-cost, condition-cost, iteration-cost)

pub statement-cost : 1 ≤ cost one_statement
unfolding one_statement
statement-cost = simp (compound-cost, simple-cost) (omega arith)

pub statement-safe : safe rank 2 1 one_statement ≡ true
unfolding one_statement
statement-safe = simp (compound-safe, line-safe)

pub file-safe : safe rank 2 2 file ≡ true
unfolding file statements
file-safe = refl
