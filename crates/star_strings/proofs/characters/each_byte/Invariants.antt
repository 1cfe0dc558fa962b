use Rattle.std.proofs.Common.{◌≡◌, ◌++◌, drop, map}
use Rattle.std.specs.Char.{encode_utf8}
use Rattle.star_strings.proofs.characters.each_byte.Given as goal

abbrev pub invariant-loop-byte : goal.invariant-loop-byte
invariant-loop-byte l = l.made ++ map encode_utf8 (drop l.byte-index l.bytes) ≡ map encode_utf8 l.bytes
