use Rattle.std.proofs.Common.{◌≡◌, List, ◌+◌, ◌-◌, ◌*◌, ◌^◌, ◌≤◌, drop, length, vec_len}
use Rattle.star_meaning.specs.Calls.{keyed, pass}
use Rattle.star_meaning.specs.Expressions.{defaults, entry_of}
use Rattle.star_machine.specs.Refines.{with_front}
use Rattle.star_meaning.specs.Semantics.{block, turns}
use Rattle.star_meaning.specs.Run.{Action, and_then, each}
use Rattle.star_meaning.specs.declared.site.Flow.{Flow}
use Rattle.star_tree.specs.declared.tree.Argument.{Argument}
use Rattle.star_tree.specs.declared.tree.Arm.{Arm}
use Rattle.star_tree.specs.declared.tree.Clause.{Clause}
use Rattle.star_meaning.specs.Statements.{arms}
use Rattle.star_meaning.specs.Targets.{to_each}
use Rattle.star_world.specs.World.{semantics, variables}
use Rattle.star_enter.specs.Positional.{expression_of}
use Rattle.star_eval.specs.Steps.{all_left, after, turn_in, remaining_turns}
use Rattle.star_call.specs.EvaluatedArgument.{all_shown}
use Rattle.star_eval.proofs.+run.Given as goal

abbrev pub decreases-evaluate::evaluate : goal.decreases-evaluate::evaluate
decreases-evaluate::evaluate l = 2 ^ 70 * l.levels

abbrev pub decreases-execute::execute : goal.decreases-execute::execute
decreases-execute::execute l = 2 ^ 70 * l.levels

abbrev pub decreases-execute::assign : goal.decreases-execute::assign
decreases-execute::assign l = 2 ^ 70 * l.levels

abbrev pub decreases-execute::read_target : goal.decreases-execute::read_target
decreases-execute::read_target l = 2 ^ 70 * l.levels

abbrev pub decreases-evaluate::run_function : goal.decreases-evaluate::run_function
decreases-evaluate::run_function l = 2 ^ 70 * l.levels

abbrev pub decreases-evaluate::evaluate_each : goal.decreases-evaluate::evaluate_each
decreases-evaluate::evaluate_each l = 2 ^ 70 * l.levels + 1

abbrev pub decreases-evaluate::evaluate_maybe : goal.decreases-evaluate::evaluate_maybe
decreases-evaluate::evaluate_maybe l = 2 ^ 70 * l.levels + 1

abbrev pub decreases-evaluate::evaluate_entry : goal.decreases-evaluate::evaluate_entry
decreases-evaluate::evaluate_entry l = 2 ^ 70 * l.levels + 1

abbrev pub decreases-evaluate::evaluate_defaults : goal.decreases-evaluate::evaluate_defaults
decreases-evaluate::evaluate_defaults l = 2 ^ 70 * l.levels + 1

abbrev pub decreases-evaluate::pass : goal.decreases-evaluate::pass
decreases-evaluate::pass l = 2 ^ 70 * l.levels + 1

abbrev pub decreases-execute::execute_each : goal.decreases-execute::execute_each
decreases-execute::execute_each l = 2 ^ 70 * l.levels + 1

abbrev pub decreases-execute::assign_to : goal.decreases-execute::assign_to
decreases-execute::assign_to l = 2 ^ 70 * l.levels + 1

abbrev pub decreases-evaluate::run_body : goal.decreases-evaluate::run_body
decreases-evaluate::run_body l = 2 ^ 70 * l.levels + 2

abbrev pub decreases-evaluate::finish_call : goal.decreases-evaluate::finish_call
decreases-evaluate::finish_call l = 2 ^ 70 * l.levels + 3

abbrev pub decreases-evaluate::evaluate_entries : goal.decreases-evaluate::evaluate_entries
decreases-evaluate::evaluate_entries l = 2 ^ 70 * l.levels + 2

abbrev pub decreases-evaluate::make_function : goal.decreases-evaluate::make_function
decreases-evaluate::make_function l = 2 ^ 70 * l.levels + 2

abbrev pub decreases-evaluate::pass_each : goal.decreases-evaluate::pass_each
decreases-evaluate::pass_each l = 2 ^ 70 * l.levels + 2

abbrev pub decreases-execute::assign_each : goal.decreases-execute::assign_each
decreases-execute::assign_each l = 2 ^ 70 * l.levels + 2

abbrev pub decreases-execute::execute_turn : goal.decreases-execute::execute_turn
decreases-execute::execute_turn l = 2 ^ 70 * l.levels + 2

abbrev pub decreases-execute::execute_arms : goal.decreases-execute::execute_arms
decreases-execute::execute_arms l = 2 ^ 70 * l.levels + 2

abbrev pub decreases-execute::augment_target : goal.decreases-execute::augment_target
decreases-execute::augment_target l = 2 ^ 70 * l.levels + 2

abbrev pub decreases-evaluate::call_on : goal.decreases-evaluate::call_on
decreases-evaluate::call_on l = 2 ^ 70 * l.levels + 9

abbrev pub decreases-evaluate::call_plainly : goal.decreases-evaluate::call_plainly
decreases-evaluate::call_plainly l = 2 ^ 70 * l.levels + 2

abbrev pub decreases-evaluate::call_built_in_on : goal.decreases-evaluate::call_built_in_on
decreases-evaluate::call_built_in_on l = 2 ^ 70 * l.levels + 8

abbrev pub decreases-orders::key_of : goal.decreases-orders::key_of
decreases-orders::key_of l = 2 ^ 70 * l.levels + 3

abbrev pub decreases-orders::keyed_each : goal.decreases-orders::keyed_each
decreases-orders::keyed_each l = 2 ^ 70 * l.levels + 4

abbrev pub decreases-orders::with_keys : goal.decreases-orders::with_keys
decreases-orders::with_keys l = 2 ^ 70 * l.levels + 5

abbrev pub decreases-orders::sorted_by_key : goal.decreases-orders::sorted_by_key
decreases-orders::sorted_by_key l = 2 ^ 70 * l.levels + 6

abbrev pub decreases-orders::best_by_key : goal.decreases-orders::best_by_key
decreases-orders::best_by_key l = 2 ^ 70 * l.levels + 6

abbrev pub decreases-orders::call_by_key : goal.decreases-orders::call_by_key
decreases-orders::call_by_key l = 2 ^ 70 * l.levels + 7

abbrev pub decreases-execute::unpack_to : goal.decreases-execute::unpack_to
decreases-execute::unpack_to l = 2 ^ 70 * l.levels + 3

abbrev pub decreases-evaluate::call : goal.decreases-evaluate::call
decreases-evaluate::call l = 2 ^ 70 * l.levels + 11

abbrev pub decreases-evaluate::call_positional : goal.decreases-evaluate::call_positional
decreases-evaluate::call_positional l = 2 ^ 70 * l.levels + 10

abbrev pub decreases-evaluate::call_with : goal.decreases-evaluate::call_with
decreases-evaluate::call_with l = 2 ^ 70 * l.levels + 10

abbrev pub decreases-evaluate::call_function : goal.decreases-evaluate::call_function
decreases-evaluate::call_function l = 2 ^ 70 * l.levels + 1

abbrev pub decreases-evaluate::evaluate_arguments : goal.decreases-evaluate::evaluate_arguments
decreases-evaluate::evaluate_arguments l = 2 ^ 70 * l.levels + 1

abbrev pub decreases-evaluate::run_positional : goal.decreases-evaluate::run_positional
decreases-evaluate::run_positional l = 2 ^ 70 * l.levels

abbrev pub decreases-evaluate::run_bound : goal.decreases-evaluate::run_bound
decreases-evaluate::run_bound l = 2 ^ 70 * l.levels

abbrev pub decreases-execute::execute_turns : goal.decreases-execute::execute_turns
decreases-execute::execute_turns l = 2 ^ 70 * l.levels + 3

abbrev pub decreases-execute::execute_loop : goal.decreases-execute::execute_loop
decreases-execute::execute_loop l = 2 ^ 70 * l.levels + 4

abbrev pub decreases-evaluate::evaluate_node : goal.decreases-evaluate::evaluate_node
decreases-evaluate::evaluate_node l = 2 ^ 70 * l.levels + (2 ^ 70 - 1)

abbrev pub decreases-evaluate::evaluate_any : goal.decreases-evaluate::evaluate_any
decreases-evaluate::evaluate_any l = 2 ^ 70 * l.levels + (2 ^ 70 - 2)

abbrev pub decreases-execute::execute_form : goal.decreases-execute::execute_form
decreases-execute::execute_form l = 2 ^ 70 * l.levels + (2 ^ 70 - 1)

abbrev pub decreases-execute::execute_any : goal.decreases-execute::execute_any
decreases-execute::execute_any l = 2 ^ 70 * l.levels + (2 ^ 70 - 2)

abbrev pub decreases-execute::execute_expression : goal.decreases-execute::execute_expression
decreases-execute::execute_expression l = 2 ^ 70 * l.levels + 1

abbrev pub decreases-execute::execute_assign : goal.decreases-execute::execute_assign
decreases-execute::execute_assign l = 2 ^ 70 * l.levels + 2

abbrev pub decreases-execute::execute_augment : goal.decreases-execute::execute_augment
decreases-execute::execute_augment l = 2 ^ 70 * l.levels + 3

abbrev pub decreases-execute::execute_return : goal.decreases-execute::execute_return
decreases-execute::execute_return l = 2 ^ 70 * l.levels + 1

abbrev pub decreases-execute::execute_for : goal.decreases-execute::execute_for
decreases-execute::execute_for l = 2 ^ 70 * l.levels + 5

abbrev pub decreases-execute::execute_def : goal.decreases-execute::execute_def
decreases-execute::execute_def l = 2 ^ 70 * l.levels + 3

abbrev pub decreases-execute::assign_node : goal.decreases-execute::assign_node
decreases-execute::assign_node l = 2 ^ 70 * l.levels + (2 ^ 70 - 1)

abbrev pub decreases-comprehensions::make_list : goal.decreases-comprehensions::make_list
decreases-comprehensions::make_list l = 2 ^ 70 * l.levels + (2 ^ 69 + 1)

abbrev pub decreases-comprehensions::fill : goal.decreases-comprehensions::fill
decreases-comprehensions::fill l = 2 ^ 70 * l.levels + 2 ^ 69

abbrev pub decreases-comprehensions::make_dict : goal.decreases-comprehensions::make_dict
decreases-comprehensions::make_dict l = 2 ^ 70 * l.levels + (2 ^ 69 + 1)

abbrev pub decreases-comprehensions::add : goal.decreases-comprehensions::add
decreases-comprehensions::add l = 2 ^ 70 * l.levels + 2

abbrev pub decreases-comprehensions::run_clauses : goal.decreases-comprehensions::run_clauses
decreases-comprehensions::run_clauses l = 2 ^ 70 * l.levels + 3

abbrev pub decreases-comprehensions::run_turn : goal.decreases-comprehensions::run_turn
decreases-comprehensions::run_turn l = 2 ^ 70 * l.levels + 4

abbrev pub decreases-comprehensions::run_turns : goal.decreases-comprehensions::run_turns
decreases-comprehensions::run_turns l = 2 ^ 70 * l.levels + 5

abbrev pub decreases-nodes::evaluate_and : goal.decreases-nodes::evaluate_and
decreases-nodes::evaluate_and l = 2 ^ 70 * l.levels + 3

abbrev pub decreases-nodes::evaluate_attribute : goal.decreases-nodes::evaluate_attribute
decreases-nodes::evaluate_attribute l = 2 ^ 70 * l.levels + 3

abbrev pub decreases-nodes::evaluate_binary : goal.decreases-nodes::evaluate_binary
decreases-nodes::evaluate_binary l = 2 ^ 70 * l.levels + 3

abbrev pub decreases-nodes::evaluate_choice : goal.decreases-nodes::evaluate_choice
decreases-nodes::evaluate_choice l = 2 ^ 70 * l.levels + 3

abbrev pub decreases-nodes::evaluate_comparison : goal.decreases-nodes::evaluate_comparison
decreases-nodes::evaluate_comparison l = 2 ^ 70 * l.levels + 3

abbrev pub decreases-nodes::evaluate_dict : goal.decreases-nodes::evaluate_dict
decreases-nodes::evaluate_dict l = 2 ^ 70 * l.levels + 3

abbrev pub decreases-nodes::evaluate_index : goal.decreases-nodes::evaluate_index
decreases-nodes::evaluate_index l = 2 ^ 70 * l.levels + 3

abbrev pub decreases-nodes::evaluate_list : goal.decreases-nodes::evaluate_list
decreases-nodes::evaluate_list l = 2 ^ 70 * l.levels + 3

abbrev pub decreases-nodes::evaluate_or : goal.decreases-nodes::evaluate_or
decreases-nodes::evaluate_or l = 2 ^ 70 * l.levels + 3

abbrev pub decreases-nodes::evaluate_slice : goal.decreases-nodes::evaluate_slice
decreases-nodes::evaluate_slice l = 2 ^ 70 * l.levels + 3

abbrev pub decreases-nodes::evaluate_tuple : goal.decreases-nodes::evaluate_tuple
decreases-nodes::evaluate_tuple l = 2 ^ 70 * l.levels + 3

abbrev pub decreases-nodes::evaluate_unary : goal.decreases-nodes::evaluate_unary
decreases-nodes::evaluate_unary l = 2 ^ 70 * l.levels + 3

abbrev pub invariant-evaluate::evaluate_each-loop-expression : goal.invariant-evaluate::evaluate_each-loop-expression
invariant-evaluate::evaluate_each-loop-expression l =
    let f = (semantics l.world l.levels).expr l.site in
    with_front l.values (each f (drop l.expression-index l.expressions) l.machine) ≡ each f l.expressions l.fn.machine

abbrev pub invariant-evaluate::evaluate_entries-loop-entry : goal.invariant-evaluate::evaluate_entries-loop-entry
invariant-evaluate::evaluate_entries-loop-entry l =
    let f = entry_of (semantics l.world l.levels) l.site in
    with_front l.found (each f (drop l.entry-index l.entries) l.machine) ≡ each f l.entries l.fn.machine

abbrev pub invariant-evaluate::evaluate_defaults-loop-parameter : goal.invariant-evaluate::evaluate_defaults-loop-parameter
invariant-evaluate::evaluate_defaults-loop-parameter l =
    let f = defaults (semantics l.world l.levels) l.site in
    with_front l.values.items (f (drop l.parameter-index l.parameters) l.machine) ≡ f l.parameters l.fn.machine

abbrev pub invariant-evaluate::evaluate_arguments-loop-argument : goal.invariant-evaluate::evaluate_arguments-loop-argument
invariant-evaluate::evaluate_arguments-loop-argument l =
    let f = λ (a : Argument). (semantics l.world l.levels).expr l.site (expression_of a) in
    with_front l.values (each f (drop l.argument-index l.arguments) l.machine) ≡ each f l.arguments l.fn.machine

abbrev pub invariant-evaluate::pass_each-loop-argument : goal.invariant-evaluate::pass_each-loop-argument
invariant-evaluate::pass_each-loop-argument l =
    let f = pass (semantics l.world l.levels) l.site in
    with_front (all_shown l.values.items) (each f (drop l.argument-index l.arguments) l.machine) ≡ each f l.arguments l.fn.machine

abbrev pub invariant-orders::keyed_each-loop-item : goal.invariant-orders::keyed_each-loop-item
invariant-orders::keyed_each-loop-item l =
    let f = keyed l.world.setting l.levels (semantics l.world l.levels) l.site l.function in
    with_front l.pairs.items (each f (drop l.item-index l.items) l.machine) ≡ each f l.items l.fn.machine

abbrev pub invariant-execute::execute_each-loop-statement : goal.invariant-execute::execute_each-loop-statement
invariant-execute::execute_each-loop-statement l =
    let f = (semantics l.world l.levels).stmt l.site in
    block f (drop l.statement-index l.statements) l.machine ≡ block f l.statements l.fn.machine

abbrev pub invariant-execute::execute_arms-loop-arm : goal.invariant-execute::execute_arms-loop-arm
invariant-execute::execute_arms-loop-arm l =
    let m = semantics l.world l.levels in
    let f : List Arm → Action Flow = λ xs. arms l.world.setting m l.site xs (block (m.stmt l.site) l.otherwise) in
    f (drop l.arm-index l.arms) l.machine ≡ f l.arms l.fn.machine

abbrev pub invariant-execute::execute_turns-loop-i : goal.invariant-execute::execute_turns-loop-i
invariant-execute::execute_turns-loop-i l =
    let f = turn_in l.world l.levels l.site l.for_loop in
    turns f (l.count - l.i) l.i l.machine ≡ turns f l.count 0 l.fn.machine

abbrev pub invariant-comprehensions::run_turns-turns : goal.invariant-comprehensions::run_turns-turns
invariant-comprehensions::run_turns-turns l =
    let c = l.world in
    let levels = l.levels in
    let p = l.site in
    and_then (remaining_turns c levels p l.output l.clause l.machine) (λ _. all_left c levels p l.output l.outer.items) ≡ remaining_turns c levels p l.output l.fn.first l.fn.machine

-- each turn pays, and opens one clause at most
abbrev pub decreases-comprehensions::run_turns-turns : goal.decreases-comprehensions::run_turns-turns
decreases-comprehensions::run_turns-turns l = 2 * l.machine.steps + vec_len l.outer

abbrev pub invariant-comprehensions::run_clauses-loop-rest : goal.invariant-comprehensions::run_clauses-loop-rest
invariant-comprehensions::run_clauses-loop-rest l =
    let f : List Clause → Action (Unit {0}) = λ cs. after l.world l.levels l.site cs l.output in
    record { same : f l.rest l.machine ≡ f l.clauses l.fn.machine; spent : l.machine.steps ≤ l.fn.machine.steps }

abbrev pub decreases-comprehensions::run_clauses-loop-rest : goal.decreases-comprehensions::run_clauses-loop-rest
decreases-comprehensions::run_clauses-loop-rest l = length l.rest

abbrev pub invariant-execute::assign_each-loop-target : goal.invariant-execute::assign_each-loop-target
invariant-execute::assign_each-loop-target l =
    let c = l.world in
    let f = to_each (variables c) (semantics c l.levels) l.site in
    f (drop l.target-index l.targets) l.rest l.machine ≡ f l.targets l.values l.fn.machine
