use Rattle.std.proofs.Common.{arith, ap, sym, ◌∙◌, subst, take}
use Rattle.std.proofs.Math.Seq.{take-length}
use Rattle.star_scope.specs.Bound.{Binds}
use Rattle.star_scope.specs.Conflicts.{parameter_binding, parameter_bindings}
use Rattle.star_scope.proofs.Bindings.{bind_none, bind_both, parameters_more}
use Rattle.star_scope.proofs.conflicts.bind_parameters.Goals as goal

pub loop-parameter-init : goal.loop-parameter-init
loop-parameter-init c = bind_none c.args.bound.now

pub loop-parameter-preserved : goal.loop-parameter-preserved
loop-parameter-preserved c =
    let before = parameter_bindings (take c.loop-parameter.parameter-index c.args.parameters.now) in
    subst (λ bs. Binds bs c.args.bound.now c.bind_parameter.new.bound)
    (sym (parameters_more c.args.parameters.now c.loop-parameter.parameter-index c.parameter-item.result c.loop-parameter-test.true c.parameter-item.is))
    (bind_both before (parameter_binding c.parameter-item.result) c.args.bound.now c.loop-parameter.bound c.bind_parameter.new.bound
    c.loop-parameter.invariant c.in_ok-bind_parameter.ensures)

pub returns : goal.returns
returns c = subst (λ ps. Binds (parameter_bindings ps) c.args.bound.now c.loop-parameter.bound)
    (ap (λ k. take k c.args.parameters.now) (omega (arith, c.loop-parameter-test.false, c.loop-parameter.auto.parameter-index-end)) ∙ take-length c.args.parameters.now)
    c.loop-parameter.invariant
