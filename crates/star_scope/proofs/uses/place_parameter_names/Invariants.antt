use Rattle.std.proofs.Common.{take}
use Rattle.star_scope.specs.ResolvedNames.{Places}
use Rattle.star_scope.specs.Uses.{all_uses, parameter_name_uses}
use Rattle.star_scope.proofs.uses.place_parameter_names.Given as goal

abbrev pub invariant-loop-parameter : goal.invariant-loop-parameter
invariant-loop-parameter l = Places l.scope (all_uses parameter_name_uses (take l.parameter-index l.parameters) l.chain) l.fn.placed l.placed
