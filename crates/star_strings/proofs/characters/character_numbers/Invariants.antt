use Rattle.std.proofs.Common.{◌≡◌}
use Rattle.star_strings.specs.Strings.{numbers}
use Rattle.star_strings.proofs.characters.character_numbers.Given as goal

abbrev pub invariant-loop-c : goal.invariant-loop-c
invariant-loop-c l = l.made ≡ numbers l.yielded
