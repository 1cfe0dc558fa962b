use Rattle.std.proofs.Common.{◌≡◌, drop}
use Rattle.std.specs.List.{list_all}
use Rattle.star_enter.specs.Positional.{is_positional}
use Rattle.star_enter.proofs.calls.are_positional.Given as goal

abbrev pub invariant-loop-argument : goal.invariant-loop-argument
invariant-loop-argument l = list_all is_positional (drop l.argument-index l.arguments) ≡ list_all is_positional l.arguments
