use Rattle.std.proofs.Common.{◌≡◌, map}
use Rattle.std.specs.Char.{encode_utf8}
use Rattle.star_strings.proofs.characters.each_character.Given as goal

abbrev pub invariant-loop-c : goal.invariant-loop-c
invariant-loop-c l = l.made ≡ map encode_utf8 l.yielded
