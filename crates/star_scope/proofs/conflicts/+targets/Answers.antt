use Rattle.std.proofs.Common.{ap, sym, ◌∙◌, subst}
use Rattle.star_scope.specs.Bound.{Binds}
use Rattle.star_scope.specs.Conflicts.{target_bindings, targets_bindings}
use Rattle.star_scope.proofs.Bindings.{bind_none}
use Rattle.star_scope.proofs.BlockBindings.{binds_turn, binds_done, all_next, of_Name, of_Index, of_display}
use Rattle.star_scope.proofs.conflicts.+targets.Goals as goal

pub bind_target-returns-in_ok-bind-in-Name : goal.bind_target-returns-in_ok-bind-in-Name
bind_target-returns-in_ok-bind-in-Name t c =
    subst (λ bs. Binds bs c.args.bound.now c.bind.new.bound) (sym (ap target_bindings c.in-Name.is ∙ of_Name c.in-Name.name)) c.in_ok-bind-in-Name.ensures

pub bind_target-returns-in-Index : goal.bind_target-returns-in-Index
bind_target-returns-in-Index t c =
    subst (λ bs. Binds bs c.args.bound.now c.args.bound.now) (sym (ap target_bindings c.in-Index.is ∙ of_Index _ _)) (bind_none c.args.bound.now)

pub bind_target-returns-in_ok-bind_targets-in-Tuple : goal.bind_target-returns-in_ok-bind_targets-in-Tuple
bind_target-returns-in_ok-bind_targets-in-Tuple t c =
    subst (λ bs. Binds bs c.args.bound.now c.bind_targets.new.bound)
    (ap targets_bindings c.as_slice.ensures ∙ sym (of_display c.args.target.now c.in-Tuple.targets c.in-Tuple.is)) c.in_ok-bind_targets-in-Tuple.ensures

pub bind_targets-loop-target-init : goal.bind_targets-loop-target-init
bind_targets-loop-target-init t c = bind_none c.args.bound.now

pub bind_targets-loop-target-preserved : goal.bind_targets-loop-target-preserved
bind_targets-loop-target-preserved t c =
    binds_turn target_bindings targets_bindings (all_next target_bindings) c.args.targets.now c.loop-target.target-index c.target-item.result
    c.args.bound.now c.loop-target.bound c.bind_target.new.bound c.loop-target-test.true c.target-item.is c.loop-target.invariant c.in_ok-bind_target.ensures

pub bind_targets-returns : goal.bind_targets-returns
bind_targets-returns t c =
    binds_done targets_bindings c.args.targets.now c.loop-target.target-index c.args.bound.now c.loop-target.bound
    c.loop-target-test.false c.loop-target.auto.target-index-end c.loop-target.invariant
