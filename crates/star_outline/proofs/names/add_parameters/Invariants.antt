use Rattle.std.proofs.Common.{◌≡◌, drop}
use Rattle.star_outline.specs.Names.{with_names}
use Rattle.star_outline.specs.Outlines.{all_parameter_names}
use Rattle.star_outline.proofs.names.add_parameters.Given as goal

abbrev pub invariant-loop-parameter : goal.invariant-loop-parameter
invariant-loop-parameter l = with_names l.names (all_parameter_names (drop l.parameter-index l.parameters)) ≡ with_names l.fn.names (all_parameter_names l.parameters)
