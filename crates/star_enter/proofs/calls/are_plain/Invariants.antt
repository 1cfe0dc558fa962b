use Rattle.std.proofs.Common.{◌≡◌, drop}
use Rattle.std.specs.List.{list_all}
use Rattle.star_enter.specs.Positional.{is_plain}
use Rattle.star_enter.proofs.calls.are_plain.Given as goal

abbrev pub invariant-loop-parameter : goal.invariant-loop-parameter
invariant-loop-parameter l = list_all is_plain (drop l.parameter-index l.parameters) ≡ list_all is_plain l.parameters
