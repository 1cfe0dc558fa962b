use Rattle.std.proofs.Common.{◌≡◌, ◌++◌, drop}
use Rattle.star_strings.specs.Strings.{numbers}
use Rattle.star_strings.proofs.characters.byte_numbers.Given as goal

abbrev pub invariant-loop-byte : goal.invariant-loop-byte
invariant-loop-byte l = l.made ++ numbers (drop l.byte-index l.bytes) ≡ numbers l.bytes
