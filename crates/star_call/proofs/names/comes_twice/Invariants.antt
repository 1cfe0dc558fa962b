use Rattle.std.proofs.Common.{◌≡◌, drop}
use Rattle.star_meaning.specs.Arguments.{comes_twice}
use Rattle.star_call.specs.Seen.{twice_after}
use Rattle.star_call.proofs.names.comes_twice.Given as goal

abbrev pub invariant-loop-value : goal.invariant-loop-value
invariant-loop-value l = twice_after l.seen (drop l.value-index l.named) ≡ comes_twice l.named
