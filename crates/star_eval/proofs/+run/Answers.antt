use Rattle.std.proofs.Common.{◌≡◌, ◌-◌, ◌∷◌, ◌++◌, [], List, length, take, drop, true, ap, sym, subst, ◌∙◌, arith}
use Rattle.std.proofs.lemmas.Result.{err_from_is_err_and}
use Rattle.star_meaning.specs.Expressions.{entry_of}
use Rattle.star_meaning.specs.Program.{Setting}
use Rattle.star_meaning.specs.Run.{Done, and_then}
use Rattle.star_tree.specs.declared.tree.Expression.{Expression}
use Rattle.star_meaning.specs.Values.{is_true}
use Rattle.star_eval.specs.declared.open_clause.OpenClause.{OpenClause}
use Rattle.star_enter.specs.Positional.{expression_of}
use Rattle.star_world.specs.World.{semantics}
use Rattle.star_eval.specs.Steps.{all_left, opened_left, remaining_turns}
use Rattle.star_call.proofs.Seen.{drop_next}
use Rattle.star_machine.proofs.Each.{each_more}
use Rattle.star_enter.proofs.Positional.{call_gives}
use Rattle.star_eval.proofs.Keys.{sorted_steps}
use Rattle.star_eval.proofs.Clauses.{clause_ended, filled_ends, filled_well, first_of, if_holds, turn_ended, turn_opened}
use Rattle.star_eval.proofs.Spends.{expression_spends}
use Rattle.star_call.specs.Callees.{function_of}
use Rattle.star_meaning.specs.Values.{content}
use Rattle.star_outline.specs.Definitions.{definition_of}
use Rattle.star_eval.proofs.Bound.{call_goes, call_stops}
use Rattle.star_eval.proofs.+run.Goals as goal

pub evaluate::call-returns-then-are_positional : goal.evaluate::call-returns-then-are_positional
evaluate::call-returns-then-are_positional t c =
    call_gives c.args.world.now c.args.levels c.args.site.now c.args.function.now c.args.arguments.now c.in_ok-value.value c.args.machine.now c.evaluate.new.machine c.call_positional.result c.call_positional.new.machine
    (sym c.are_positional.ensures ∙ c.if-are_positional.true) c.in_ok-value.ensures c.call_positional.ensures

pub comprehensions::fill-returns : goal.comprehensions::fill-returns
comprehensions::fill-returns t c =
    filled_well c.args.world.now c.args.levels c.args.site.now c.args.output c.args.clauses.now c.args.value c.in_ok-count.count c.as_slice.result.now c.setting.result.now c.container.result c.args.machine.now c.iterate.new.self c.run_turns.new.machine
    c.setting.ensures c.as_slice.ensures c.in_ok-count.ensures c.in_ok-run_turns.ensures c.container.ensures

pub comprehensions::fill-returns-in_err-run_turns : goal.comprehensions::fill-returns-in_err-run_turns
comprehensions::fill-returns-in_err-run_turns t c =
    let q = err_from_is_err_and c.from_residual-in_err-run_turns.result c.from_residual-in_err-run_turns.ensures.1 in
    rw (q.1, q.2) (filled_ends c.args.world.now c.args.levels c.args.site.now c.args.output c.args.clauses.now c.args.value c.in_ok-count.count c.as_slice.result.now c.setting.result.now c.in_err-run_turns.field-0.0 c.args.machine.now c.iterate.new.self c.run_turns.new.machine
    c.setting.ensures c.as_slice.ensures c.in_ok-count.ensures c.in_err-run_turns.ensures)

pub comprehensions::run_clauses-loop-rest-preserved : goal.comprehensions::run_clauses-loop-rest-preserved
comprehensions::run_clauses-loop-rest-preserved t c =
    let w = c.args.world.now in
    let levels = c.args.levels in
    let p = c.args.site.now in
    let ks = c.loop-rest.rest.now in
    let k = c.clause-item.result in
    let v = c.in_ok-value-in-If.value in
    let u = c.evaluate-in-If.new.machine in
    let run = c.in_ok-value-in-If.ensures in
    let test = subst (λ (y : Setting). is_true y v u ≡ Done true u) c.setting-in-If.ensures (c.is_true.ensures ∙ ap (λ b. Done b u) c.if-not-is_true.false) in
    let less = expression_spends w levels p c.in-If.condition v c.loop-rest.machine u run in
    record {
      same = sym (if_holds w levels p c.args.output ks k (take (length ks - 1) (drop 1 ks)) c.in-If.condition v c.loop-rest.machine u (first_of ks k c.in-len1-up.len_at_least c.clause-item.is) c.in-If.is run test) ∙ c.loop-rest.invariant.same;
      spent = omega (arith, less, c.loop-rest.invariant.spent);
    }

pub comprehensions::run_turns-turns-preserved-then-clause : goal.comprehensions::run_turns-turns-preserved-then-clause
comprehensions::run_turns-turns-preserved-then-clause t c =
    clause_ended c.args.world.now c.args.levels c.args.site.now c.args.output c.turns.outer.items c.pop.new.self.items c.turns.clause c.in-Some.around c.turns.machine c.leave.new.self c.if-clause.true c.leave.ensures c.in-Some.ensures.items
    ∙ c.turns.invariant

pub comprehensions::run_turns-turns-preserved-in-Some-opened : goal.comprehensions::run_turns-turns-preserved-in-Some-opened
comprehensions::run_turns-turns-preserved-in-Some-opened t c =
    let w = c.args.world.now in
    let levels = c.args.levels in
    let p = c.args.site.now in
    let o = c.args.output in
    let u = c.run_turn.new.machine in
    let g = c.in-Some-opened.inner in
    let fs = c.turns.outer.items in
    ap (λ (xs : List OpenClause). and_then (remaining_turns w levels p o g u) (λ _. all_left w levels p o xs)) (c.in_ok-push.ensures.items ∙ ap (λ (f : OpenClause). fs ++ f ∷ []) c.past_item-clause.ensures)
    ∙ turn_opened w levels p o fs c.turns.clause g c.turns.machine u c.if-clause.false (c.in_ok-opened.ensures.turn ∙ ap (λ x. opened_left w levels p o x u) c.in-Some-opened.is)
    ∙ c.turns.invariant

pub comprehensions::run_turns-turns-preserved : goal.comprehensions::run_turns-turns-preserved
comprehensions::run_turns-turns-preserved t c =
    let w = c.args.world.now in
    let levels = c.args.levels in
    let p = c.args.site.now in
    let o = c.args.output in
    let u = c.run_turn.new.machine in
    let fs = c.turns.outer.items in
    ap (λ (f : OpenClause). and_then (remaining_turns w levels p o f u) (λ _. all_left w levels p o fs)) c.past_item-clause.ensures
    ∙ turn_ended w levels p o fs c.turns.clause c.turns.machine u c.if-clause.false (c.in_ok-opened.ensures.turn ∙ ap (λ x. opened_left w levels p o x u) c.in_default-opened.is)
    ∙ c.turns.invariant

pub evaluate::evaluate_arguments-loop-argument-preserved : goal.evaluate::evaluate_arguments-loop-argument-preserved
evaluate::evaluate_arguments-loop-argument-preserved t c =
    let run = (semantics c.args.world.now c.args.levels).expr c.args.site.now in
    let next = drop_next c.args.arguments.now c.loop-argument.argument-index c.argument-item.result c.loop-argument-test.true c.argument-item.is in
    let done = subst (λ (e : Expression). run e c.loop-argument.machine ≡ Done c.in_ok-value.value c.evaluate.new.machine) c.expression_of.ensures c.in_ok-value.ensures in
    each_more (λ a. run (expression_of a)) _ _ _ _ _ _ _ _ _ next done c.in_ok-push.ensures.pushed c.loop-argument.invariant

pub evaluate::evaluate_each-loop-expression-preserved : goal.evaluate::evaluate_each-loop-expression-preserved
evaluate::evaluate_each-loop-expression-preserved t c =
    let next = drop_next c.args.expressions.now c.loop-expression.expression-index c.expression-item.result c.loop-expression-test.true c.expression-item.is in
    each_more ((semantics c.args.world.now c.args.levels).expr c.args.site.now) _ _ _ _ _ _ _ _ _ next c.in_ok-value.ensures c.in_ok-push.ensures.pushed c.loop-expression.invariant

pub evaluate::evaluate_entries-loop-entry-preserved : goal.evaluate::evaluate_entries-loop-entry-preserved
evaluate::evaluate_entries-loop-entry-preserved t c =
    let next = drop_next c.args.entries.now c.loop-entry.entry-index c.entry-item.result c.loop-entry-test.true c.entry-item.is in
    each_more (entry_of (semantics c.args.world.now c.args.levels) c.args.site.now) _ _ _ _ _ _ _ _ _ next c.in_ok-key.ensures c.in_ok-push.ensures.pushed c.loop-entry.invariant

pub orders::sorted_by_key-returns : goal.orders::sorted_by_key-returns
orders::sorted_by_key-returns t c =
    let w = c.args.world.now in
    sorted_steps w.setting c.args.levels (semantics w c.args.levels) c.args.site.now c.args.given.now c.args.machine.now c.asked_to_sort.new.machine c.with_keys.new.machine c.sort_by.new.machine c.in_ok-asked.asked c.in_ok-pairs.pairs.items c.sort_by.result
    (rw (← c.setting-setting.ensures) c.in_ok-asked.ensures) (rw (← c.as_slice-items.ensures) c.in_ok-pairs.ensures) (rw (← c.setting-setting.ensures, ← c.deref.ensures.value) c.sort_by.ensures)

pub evaluate::run_bound-returns-in_err-site : goal.evaluate::run_bound-returns-in_err-site
evaluate::run_bound-returns-in_err-site t c = λ shares b.
    let q = err_from_is_err_and c.from_residual.result c.from_residual.ensures.1 in
    let f = function_of (content c.args.world.now.setting c.args.machine.now c.args.called.value) c.args.called in
    rw (q.1, q.2) (call_stops c.args.world.now c.args.levels c.args.site.now f (definition_of c.args.called.definition) c.args.bound c.args.machine.now c.enter_bound.new.machine c.in_err-site.field-0.0
    (omega (arith, c.if-levels-eq0.false)) c.in_err-site.ensures shares b)

pub evaluate::run_bound-returns : goal.evaluate::run_bound-returns
evaluate::run_bound-returns t c = λ shares b.
    let f = function_of (content c.args.world.now.setting c.args.machine.now c.args.called.value) c.args.called in
    call_goes c.args.world.now c.args.levels c.args.site.now f (definition_of c.args.called.definition) c.args.bound c.args.machine.now c.enter_bound.new.machine c.finish_call.new.machine c.in_ok-site.site c.finish_call.result
    (omega (arith, c.if-levels-eq0.false)) c.in_ok-site.ensures c.finish_call.ensures shares b
