use Rattle.std.proofs.Common.{◌≡◌, ◌++◌, drop}
use Rattle.star_meaning.specs.Arguments.{named_of}
use Rattle.star_call.specs.EvaluatedArgument.{all_shown}
use Rattle.star_call.proofs.passed.named_of.Given as goal

abbrev pub invariant-loop-argument : goal.invariant-loop-argument
invariant-loop-argument l = l.named.items ++ named_of (all_shown (drop l.argument-index l.passed)) ≡ named_of (all_shown l.passed)
