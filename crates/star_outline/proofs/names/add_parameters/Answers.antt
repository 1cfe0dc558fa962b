use Rattle.std.proofs.Common.{refl}
use Rattle.star_outline.specs.Outlines.{all_parameter_names, parameter_names}
use Rattle.star_outline.proofs.BoundNames.{names_turn, names_done}
use Rattle.star_outline.proofs.names.add_parameters.Goals as goal

pub loop-parameter-preserved : goal.loop-parameter-preserved
loop-parameter-preserved c =
    names_turn parameter_names all_parameter_names (λ x xs. refl) c.args.parameters.now c.loop-parameter.parameter-index c.parameter-item.result c.loop-parameter.names c.add_parameter.new.names _ c.loop-parameter-test.true c.parameter-item.is c.in_ok-add_parameter.ensures c.loop-parameter.invariant

pub returns : goal.returns
returns c = names_done all_parameter_names c.args.parameters.now c.loop-parameter.parameter-index c.loop-parameter.names _ refl c.loop-parameter-test.false c.loop-parameter.invariant
